-- `containment::mapping::note_views` meets its contract.
use native.Mathlib.Omega.{arith}
use mathlib.Core.Path.{refl, ◌∙◌}
use Rattle.engine.proofs.MatchedLaws.{edges_twice}
use Rattle.engine.proofs.StartLaws.{room_blank}
use Rattle.engine.proofs.RowLaws.{blank_long}
use Rattle.matching.proofs.RecordLaws.{ready_by, rises_by, ready_again, rises_again}
use Rattle.containment.proofs.QueryLaws.{fair}
use Rattle.containment.proofs.NotingLaws.{noted_start, noted_end, noted_long, noted_clear, noted_more, views_few, counts_few, number_few, nodes_few, query_present, placed_again, placed_many, placed_front}
use Rattle.containment.proofs.mapping.note_views.Goals as goal

pub places_of-places-requires : goal.places_of-places-requires
places_of-places-requires c =
    let t = c.requires.0 in
    let h = c.requires.5 in
    let e = c.requires.6 t in
    (fair t, omega (arith, number_few t h e), h.long, query_present t h e (record { long = refl; same = λ k l. refl }))

pub loop-a-init : goal.loop-a-init
loop-a-init c =
    let t = c.requires.0 in (
      omega arith,
      record { long = refl; same = λ k l. refl },
      noted_start c.no_mapping-mapping.ensures,
      room_blank 16 _ (nodes_few t c.requires.5 (c.requires.6 t)) c.no_words-leave.ensures c.no_words-arrive.ensures c.no_words-held.ensures,
      blank_long 16 c.no_words-leave.ensures,
      blank_long 16 c.no_words-arrive.ensures,
      blank_long 16 c.no_words-held.ensures,
    )

pub match_batch-requires : goal.match_batch-requires
match_batch-requires c =
    let t = c.requires.0 in
    let l = c.loop-a.invariant in
    let h = c.requires.5 in
    (c.fill-f.ensures.fair, ready_again l.1 (ready_by h c.requires.3), rises_again l.1 (omega (arith, number_few t h (c.requires.6 t))) (rises_by h), l.3, tt)

pub note_batch-requires : goal.note_batch-requires
note_batch-requires c =
    let t = c.requires.0 in
    let v = c.requires.1 in
    let h = c.requires.5 in
    let l = c.loop-a.invariant in
    let f = c.fill-f.ensures in
    let d = c.match_batch.ensures.0 in
    let few = number_few t h (c.requires.6 t) in (
      (_, c.named-named.ensures),
      omega (arith, f.some),
      omega (arith, f.most, views_few v),
      omega (arith, placed_many c.places_of-places.ensures, (fair t).edges),
      counts_few c.args.counts c.requires.2 v f,
      noted_long l.2 t v,
      d.edges.long ∙ l.1.long ∙ h.long,
      λ i j. omega (arith, ((placed_front c.places_of-places.ensures).each i (omega (arith, placed_many c.places_of-places.ensures))).0, few),
      noted_clear l.2 t v,
    )

pub loop-a-preserved : goal.loop-a-preserved
loop-a-preserved c =
    let t = c.requires.0 in
    let l = c.loop-a.invariant in
    let d = c.match_batch.ensures.0 in
    let g = edges_twice l.1 d.edges in (
      c.fill-f.ensures.most,
      g,
      noted_more c.requires.5 c.requires.6 l.2 c.fill-f.ensures c.args.counts c.requires.2 l.1 d (placed_again g (omega (arith, number_few t c.requires.5 (c.requires.6 t))) (placed_front c.places_of-places.ensures)) (rw (placed_many c.places_of-places.ensures) at c.note_batch.ensures _ c.named-named.ensures),
      c.match_batch.ensures.1,
      c.match_batch.auto.leave ∙ l.4,
      c.match_batch.auto.arrive ∙ l.5,
      c.match_batch.auto.held ∙ l.6,
    )

pub returns : goal.returns
returns c = noted_end c.loop-a.invariant.2 (omega arith)
