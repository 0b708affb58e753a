-- `containment::mapping::places_of` meets its contract.
use native.Mathlib.Omega.{arith}
use Prim.Native.Nat.{◌<◌}
use mathlib.Core.Path.{◌≡◌, refl}
use lib.ListN.{get_or, length-set}
use Rattle.containment.specs.Steps.{Present, word_at}
use Rattle.containment.proofs.MaskedLaws.{masks_more}
use Rattle.containment.proofs.MappingLaws.{place_holds}
use Rattle.containment.proofs.mapping.places_of.Goals as goal

pub loop-e-preserved : goal.loop-e-preserved
unfolding Present
loop-e-preserved c =
    let a = c.args in
    let l = c.loop-e in
    let f = c.requires.0.edges in (
      simp length-set l.invariant.0,
      masks_more (λ d x. (x < a.m) × (get_or a.work.now x 0 ≡ word_at a.q d)) l.places l.e c.place_of.result (omega arith) l.invariant.1 (place_holds (c.requires.3 l.e (omega arith)) c.place_of.ensures),
    )

pub returns : goal.returns
returns c = record { fair = c.requires.0; edges = refl; some = omega (arith, c.loop-e.invariant.0, c.requires.0.edges); each = λ e l. c.loop-e.invariant.1 e (omega arith) }
