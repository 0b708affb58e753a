-- Indexes: the record's own is accepted and no other, and a search with it answers what one without it does.
use Prim.Native.Nat.{ℕ, ◌≤◌}
use mathlib.Core.Path.{◌≡◌, refl, sym, ap, ◌∙◌}
use mathlib.Core.Logic.{inl, inr, ◌↔◌, ⊎_elim}
use mathlib.Core.List.{List, [], ◌∷◌}
use lib.ListN.{length}
use native.Mathlib.Omega.{arith}
use Rattle.packed.specs.Calls.{Outcome, give, refuse, with_workspace, read_pattern, fit, fit_file}
use Rattle.packed.proofs.OrderCases.{eq_or_ne}
use Rattle.engine.specs.Simulation.{pattern_of, graph_of, match_sets}
use Rattle.engine.specs.Index.{alike, own_index}
use Rattle.matching.specs.Search.{sheet_bytes, search_outcome}
use Rattle.matching.specs.Index.{make_index_outcome, check_index_outcome, search_indexed_outcome}
use Rattle.engine.proofs.OwnIndex.{alike_at, alike_all, alike_say, own_accepted, own_number, own_position, own_differs}
use Rattle.answering.specs.Demands.{Question, Record, own_of, Way, without_index, with_own, search_by, sheet_of, Full, NotOwn}
use Rattle.answering.proofs.DemandRules.{number_same, detail_same, not_refused, judged_same, goes_on, enough_words, enough_for, full_words, full_judged, full_twice, file_number}
use Rattle.answering.proofs.DemandSheets.{searched}

-- ---- an index beside the record's own
module _ (own index : List ℕ) (a : Outcome) where
  -- it is the record's own, or 16 falls to it
  own_cases : {P : Type 0} → (index ≡ own → own_index own index a ≡ a → P) → ((d : ℕ) → NotOwn own index d → own_index own index a ≡ refuse 16 d → P) → P
  own_cases f g =
      ⊎_elim
      (λ (e : length index ≡ length own). ⊎_elim
      (λ (z : alike own index ≡ length own). let q = sym (alike_all own index (sym e) z) in f q (own_accepted own index a q))
      (λ (z : alike own index ≡ length own → ⊥).
      let r = own_differs own index a e z in
      let y = alike_say own index (sym e) r.1 in
      g (alike own index) (inr (record { number = e; below = r.1; differs = y.0; before = y.1 })) r.0)
      (eq_or_ne (alike own index) (length own)))
      (λ (n : length index ≡ length own → ⊥). g (length index) (inl (n, refl)) (own_number own index a n))
      (eq_or_ne (length index) (length own))

  own_refused : (d : ℕ) → NotOwn own index d → own_index own index a ≡ refuse 16 d
  own_refused d (inl n) = own_number own index a n.0 ∙ ap (refuse 16) (sym n.1)
  own_refused d (inr f) = own_position own index a d f.number (alike_at own index d (sym f.number) (let l = f.below in omega arith) f.before (λ l. f.differs)) f.below

  -- so 16 falls to it exactly then
  own_exactly : ((d : ℕ) → a ≡ refuse 16 d → ⊥) → (d : ℕ) → (own_index own index a ≡ refuse 16 d) ↔ NotOwn own index d
  own_exactly n d = (
    λ x. own_cases (λ e q. absurd (n d (sym q ∙ x))) (λ k m q. rw (detail_same (sym q ∙ x)) at m),
    λ x. own_refused d x,
  )

  own_full : Full (own_index own index a) → index ≡ own
  own_full f = own_cases (λ e q. e) (λ d m q. absurd (not_refused (sym f.is ∙ q)))

words_exactly : (words : ℕ) (a b : Outcome) (d : ℕ) {P : Type 0} → a ≡ b → (b ≡ refuse 16 d) ↔ P → (with_workspace words a ≡ refuse 16 d) ↔ ((16384 ≤ words) × P)
words_exactly words a b d e x = (
  λ y. let w = enough_for words a (λ z. let k = number_same z in omega arith) y in (w.0, x.0 (sym e ∙ w.1)),
  λ y. enough_words words a y.0 ∙ e ∙ x.1 y.1,
)

-- ---- the calls on an accepted record
module _ (r rs : List ℕ) (f : Record r rs) where
  pub index_made : (room : ℕ) → make_index_outcome r room ≡ fit room (own_of rs)
  unfolding make_index_outcome
  index_made room = goes_on _ f

  checked : (index : List ℕ) → check_index_outcome r index ≡ own_index (own_of rs) index (give (length index ∷ []) [])
  unfolding check_index_outcome
  checked index = goes_on _ f

  pub check_exactly : (index : List ℕ) (words d : ℕ) → (with_workspace words (check_index_outcome r index) ≡ refuse 16 d) ↔ ((16384 ≤ words) × NotOwn (own_of rs) index d)
  check_exactly index words d = words_exactly words _ _ d (checked index) (own_exactly (own_of rs) index (give (length index ∷ []) []) (λ k e. not_refused e) d)

  pub check_yes : (index : List ℕ) (words : ℕ) → (with_workspace words (check_index_outcome r index) ≡ give (length index ∷ []) []) ↔ ((16384 ≤ words) × (index ≡ own_of rs))
  check_yes index words = (
    λ x.
        let w = enough_for words (check_index_outcome r index) (λ z. not_refused (sym z)) x in
        (w.0, own_full (own_of rs) index (give (length index ∷ []) []) (record { values = length index ∷ []; outputs = []; is = sym (checked index) ∙ w.1 })),
    λ x. enough_words words _ x.0 ∙ checked index ∙ own_accepted (own_of rs) index _ x.1,
  )

  module _ (p ps : List ℕ) (e : Question p ps) where
    searched-with : (index : List ℕ) (room : ℕ) → search_indexed_outcome p r index room ≡ own_index (own_of rs) index (fit_file room (sheet_of (pattern_of ps) rs))
    unfolding search_indexed_outcome
    searched-with index room = goes_on _ e ∙ goes_on _ f

    pub search_exactly : (index : List ℕ) (room words d : ℕ)
        → (with_workspace words (search_indexed_outcome p r index room) ≡ refuse 16 d) ↔ ((16384 ≤ words) × NotOwn (own_of rs) index d)
    search_exactly index room words d =
        words_exactly words _ _ d (searched-with index room)
        (own_exactly (own_of rs) index (fit_file room (sheet_of (pattern_of ps) rs)) (λ k q. let z = file_number room (sheet_of (pattern_of ps) rs) 16 k q in omega arith) d)

-- ---- nothing is given of others
pub check_whole : (r index : List ℕ) (words : ℕ) → Full (with_workspace words (check_index_outcome r index)) → (rs : List ℕ) × Record r rs × (index ≡ own_of rs)
unfolding check_index_outcome
check_whole r index words f =
    let t = full_judged _ _ (full_words words (check_index_outcome r index) f) in
    (t.0, t.1, own_full (own_of t.0) index _ t.2)

pub search_whole : (p r index : List ℕ) (room words : ℕ) → Full (with_workspace words (search_indexed_outcome p r index room))
    → (ps : List ℕ) × (rs : List ℕ) × Question p ps × Record r rs × (index ≡ own_of rs)
unfolding search_indexed_outcome
search_whole p r index room words f =
    let t = full_twice _ _ _ (full_words words (search_indexed_outcome p r index room) f) in
    (t.0, t.1, t.2, t.3, own_full (own_of t.1) index _ t.4)

-- ---- with the record's own index or without one
pub way_same : (way : Way) (p r rs : List ℕ) → Record r rs → (room : ℕ) → search_by way p r rs room ≡ search_outcome p r room
unfolding search_indexed_outcome search_outcome
way_same without_index p r rs f room = refl
way_same with_own p r rs f room =
    judged_same (read_pattern p) (λ ps _. goes_on _ f ∙ own_accepted (own_of rs) (own_of rs) (fit_file room (sheet_bytes (match_sets (pattern_of ps) (graph_of rs)))) refl ∙ sym (goes_on _ f))

pub way_searched : (way : Way) (p r ps rs : List ℕ) → Question p ps → Record r rs → (room : ℕ) → search_by way p r rs room ≡ fit_file room (sheet_of (pattern_of ps) rs)
way_searched way p r ps rs e f room = way_same way p r rs f room ∙ searched p r ps rs e f room
