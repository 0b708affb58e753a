-- `matching::candidates::clear_masks` meets its contract.
use mathlib.Core.Path.{ap, ◌∙◌}
use native.Mathlib.Omega.{arith}
use lib.ListN.{length-take, length-drop, replicate, drop}
use Prim.Native.Nat.{ℕ, ◌+◌, ◌-◌}
use Rattle.matching.proofs.Taking.{blank_by}
use Rattle.matching.proofs.candidates.clear_masks.Goals as goal

pub returns : goal.returns
returns c =
    blank_by c.requires.0 c.requires.1
    (c.fill.ensures.after (λ y k. k) ∙ ap (λ (n : ℕ). replicate n 0) (omega (arith, c.requires, length-take (8192 + c.args.d - 8192) (drop 8192 c.args.work.now), length-drop 8192 c.args.work.now)))
