-- Pruning both ways: all links are due at once, as they leave and as they arrive, and none is free. What is left is the greatest choice from what was held.
use mathlib.Core.Path.{refl, ap, ◌∙◌, sym, subst}
use mathlib.Core.Logic.{⊎_elim}
use mathlib.Core.List.{List}
use Prim.Native.Nat.{ℕ, ◌≤◌}
use native.Mathlib.Omega.{arith}
use lib.Dec.{T}
use Rattle.packed.specs.declared.by_value.Pattern.{Pattern as Given}
use Rattle.engine.specs.Lists.{In}
use Rattle.engine.specs.Simulation.{Pattern}
use Rattle.engine.specs.Loaded.{given_edge, pattern_in}
use Rattle.engine.specs.Sweeping.{Tabled}
use Rattle.engine.specs.Rounds.{Safe, Sound, Fixed}
use Rattle.matching.specs.Join.{pair_of, Offer, Kept, choice, kept_for}
use Rattle.matching.specs.Components.{Holds, Pruned}
use Rattle.matching.specs.Candidates.{Pool}
use Rattle.matching.specs.Stepping.{Fresh}
use Rattle.engine.proofs.MaskBits.{none_has}
use Rattle.matching.proofs.JoiningLaws.{every_has, every_shape}
use Rattle.matching.proofs.JoinLaws.{choice_candidate, kept_in, in_kept}
use Rattle.matching.proofs.ReachLaws.{in_edges, edges_in_lem, given_rule}
use Rattle.matching.proofs.LeftLaws.{stands, Rested, left_chosen, stands_below, chosen_supports, chosen_backs, chosen_left}

module _ {q : Given} {n d all : ℕ} {w leave arrive out leaving arriving ending starting : List ℕ} (pool : Pool d w) (f : Fresh q n d all w leave arrive out leaving arriving)
    (T₃ : Tabled q.to q.to q.edges ending) (T₄ : Tabled q.to q.from q.edges starting)
    {w' leave' arrive' out' : List ℕ} (F : Fixed n 0 all all d leaving arriving ending starting w leave arrive out 0 w' leave' arrive' out') where
  abbrev Q : Pattern
  Q = pattern_in q

  abbrev sound : Sound q.from q.to q.edges 0 all all d w leave arrive w' leave' arrive'
  sound = F.sound q.from q.to q.edges f.by_from f.by_to (λ e h. (T₃, T₄)) (λ e y h. none_has e h) all (λ e h. h)

  few : q.edges ≤ 32
  few = f.by_from.few

  rested : Rested q n d w w' leave' arrive' Q (λ e. Unit {0})
  rested =
      record {
        small = pool.small;
        ends = f.ends;
        same = F.falls.same;
        part = F.falls.part;
        asked = λ e le t. in_edges q e le;
        only = λ g j. (let o = edges_in_lem q j in record { at = o.at; below = o.below; holds = (o.holds, tt) });
        shape = sound.shape (every_shape f.links q.from q.to f.leaves f.arrives);
        within = λ i e l le t h. ⊎_elim (λ y. absurd (none_has e y)) (λ m. m) ((F.rests refl).within i e l h);
        begins = λ v k l lk h. (F.rests refl).held v k l (f.links.hit k lk) (let z = few in omega arith) h;
        closes = λ r v k l lk h. (F.rests refl).arrived v k l (f.links.hit k lk) (let z = few in omega arith) h;
      }

  module _ (cs : Offer) (first : Holds q d w cs) where
    abbrev J : List Kept
    J = choice Q cs

    safe : Safe q.from q.to q.edges 0 all d w leave arrive (λ u v. T (stands J u v))
    safe =
        record {
          supports = chosen_supports rested cs first _ (λ e v le m h. tt);
          backs = chosen_backs rested cs first (given_rule q) _ (λ e v le m h. tt);
          leaves = λ u v e t le p. every_has f.links f.leaves v e (stands_below rested cs first u v t) le;
          arrives = λ u v e t le p. every_has f.links f.arrives v e (stands_below rested cs first u v t) le;
        }

    state : Holds q d w' (kept_for J)
    state =
        record {
          listed = λ i e l le h. subst (λ (x : ℕ). In (pair_of x) (kept_for J (given_edge q e))) (sym (F.falls.same i l)) (in_kept J (left_chosen rested cs first i e l le tt h));
          held = λ i e l le h.
              chosen_left rested cs first (sound.stays (stands J) safe) i e l le
              (kept_in J (subst (λ (x : ℕ). In (pair_of x) (kept_for J (given_edge q e))) (F.falls.same i l) h));
          among = λ e g le h.
              (let o = first.among e g le (choice_candidate Q cs (kept_in J h)).1 in
              (o.0, o.1, o.2 ∙ ap pair_of (sym (F.falls.same o.0 o.1))));
        }

  pub pruned_by : Pruned q d w w'
  pruned_by = record { state = state; long = F.falls.long; pairs = F.falls.low }
