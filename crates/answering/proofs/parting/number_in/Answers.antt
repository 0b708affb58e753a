-- `answering::parting::number_in` meets its contract.
use mathlib.Core.Path.{◌≡◌, ap, ◌∙◌}
use native.Mathlib.Omega.{arith}
use lib.Bits.{bit_and, and_mask}
use lib.Count.{ones}
use Rattle.engine.specs.Simulation.{bit}
use Rattle.matching.specs.Part.{rank}
use Rattle.matching.proofs.PlaceLaws.{rank_most}
use Rattle.answering.proofs.PartingLaws.{ones_rank}
use Rattle.answering.proofs.parting.number_in.Goals as goal

pub returns : goal.returns
returns c =
    let a = c.args in
    let r : ones (bit_and a.set c.first_edges.result) ≡ rank (bit a.set) a.n = ap ones (ap (bit_and a.set) c.first_edges.ensures ∙ and_mask a.set a.n) ∙ ones_rank a.set a.n in
    (r, omega (arith, r, rank_most (bit a.set) a.n))
