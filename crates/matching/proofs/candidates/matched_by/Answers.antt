-- `matching::candidates::matched_by` meets its contract.
use mathlib.Core.Path.{◌≡◌}
use Prim.Native.Nat.{◌+◌, ◌*◌}
use native.Mathlib.Omega.{arith}
use lib.ListN.{get_or}
use Rattle.engine.specs.Masks.{Has}
use Rattle.engine.proofs.MaskBits.{union_start, union_more}
use Rattle.matching.proofs.TakingSheets.{union_own}
use Rattle.matching.proofs.candidates.matched_by.Goals as goal

pub loop-e-init : goal.loop-e-init
loop-e-init c = (omega arith, union_start _)

pub loop-e-preserved : goal.loop-e-preserved
loop-e-preserved c = (omega arith, union_more (λ e k. (e ≡ k) × Has (get_or c.args.t.now (16 * e + c.args.a) 0) c.args.f) _ c.loop-e.invariant.1 c.one_where-r.ensures)

pub returns : goal.returns
returns c = union_own (λ e. Has (get_or c.args.t.now (16 * e + c.args.a) 0) c.args.f) _ _ c.loop-e.invariant.1 (omega arith)
