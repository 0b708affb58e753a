-- `engine::views::view_at` meets its contract.
use Rattle.engine.proofs.ViewLaws.{view_fits, view_held}
use native.Mathlib.Omega.{arith}
use Rattle.engine.proofs.views.view_at.Goals as goal

pub pattern_of-pattern-requires : goal.pattern_of-pattern-requires
pattern_of-pattern-requires c =
    let q = rw c.in-Ok.is at c.read_pattern-p.ensures in
    view_fits q.0 (omega (arith, q.1)) (omega arith) c.requires.inside

pub returns-in-Ok : goal.returns-in-Ok
returns-in-Ok c =
    let read-pattern = c.read_pattern-p in
    let q = rw c.in-Ok.is at read-pattern.ensures in
    λ ws end a. view_held q.0 (omega (arith, q.1)) c.pattern_of-pattern.ensures ws end a
