-- `packed::record::cut_edge` meets its contract.
use native.Mathlib.Omega.{arith}
use Rattle.packed.proofs.record.cut_edge.Goals as goal

pub returns-in-Ok : goal.returns-in-Ok
returns-in-Ok c =
    let p = rw c.in-Ok.is at c.read_edge-f.ensures in
    λ f. absurd (omega (arith, p.kind.fits, c.requires.2))

pub returns-in-Err : goal.returns-in-Err
returns-in-Err c = rw c.in-Err.is at c.read_edge-f.ensures
