-- `packed::calls::write_book_of` meets its contract.
use lib.ListN.{length, take}
use Rattle.packed.specs.Format.{encode}
use Rattle.packed.specs.Formats.{book}
use Rattle.packed.specs.Calls.{within_pairs_by, fit_file}
use Rattle.packed.specs.declared.reply.File.TheVariants.{Sheet}
use Rattle.packed.specs.declared.reply.Refusal.TheVariants.{TooManyPairs}
use Rattle.packed.proofs.Counted.{all_left}
use Rattle.packed.proofs.Passing.{err_is}
use Rattle.packed.proofs.WalkLaws.{field_pairs}
use Rattle.packed.proofs.CallLaws.{write_finds, accepted_by, refused_by, fit_file_fits, body_refused, body_declined, body_goes_on, fitted_tight, fitted_given, gathered_many, gathered_few, none_lent, judges_fields_front}
use Rattle.packed.proofs.calls.write_book_of.Goals as goal

pub returns-then-different-gt-PAIRS_MOST : goal.returns-then-different-gt-PAIRS_MOST
returns-then-different-gt-PAIRS_MOST c =
    let gather-fields = c.gather_fields-different in
    let a = c.args in
    let j = c.judge_book_fields in
    let ms = take a.k a.counts in
    let q = rw (all_left c.args.k) at c.in_ok-n.ensures in
    body_declined (λ o. within_pairs_by ms a.fields.now (fit_file (length a.out.now) o)) (accepted_by (write_finds 4 (book ms) a.fields.now) q.is) a.out.now (none_lent a.out.now j.new.out j.auto.out) (TooManyPairs Sheet) (gathered_many ms a.fields.now gather-fields.ensures (field_pairs ms a.fields.now q.fields q.is) (fit_file (length a.out.now) q.fields) c.if-different-gt-PAIRS_MOST.true)

pub returns-then-out-n : goal.returns-then-out-n
returns-then-out-n c =
    let gather-fields = c.gather_fields-different in
    let if1 = c.if-different-gt-PAIRS_MOST in
    let a = c.args in
    let j = c.judge_book_fields in
    let ms = take a.k a.counts in
    let q = rw (all_left c.args.k) at c.in_ok-n.ensures in
    body_goes_on (λ o. within_pairs_by ms a.fields.now (fit_file (length a.out.now) o)) (accepted_by (write_finds 4 (book ms) a.fields.now) q.is)
    (fitted_tight fit_file_fits a.out.now q.fields (none_lent a.out.now j.new.out j.auto.out) (gathered_few ms a.fields.now gather-fields.ensures (field_pairs ms a.fields.now q.fields q.is) (fit_file (length a.out.now) q.fields) if1.false) q.number c.if-out-n.true)

pub returns : goal.returns
returns c =
    let gather-fields = c.gather_fields-different in
    let if1 = c.if-different-gt-PAIRS_MOST in
    let if2 = c.if-out-n in
    let judge-book-fields2 = c.judge_book_fields-2 in
    let a = c.args in
    let j = c.judge_book_fields in
    let ms = take a.k a.counts in
    let q = rw (all_left c.args.k) at c.in_ok-n.ensures in
    body_goes_on (λ o. within_pairs_by ms a.fields.now (fit_file (length a.out.now) o)) (accepted_by (write_finds 4 (book ms) a.fields.now) q.is)
    (fitted_given fit_file_fits a.out.now q.fields (none_lent a.out.now j.new.out j.auto.out) (gathered_few ms a.fields.now gather-fields.ensures (field_pairs ms a.fields.now q.fields q.is) (fit_file (length a.out.now) q.fields) if1.false) q.number if2.false
    (judges_fields_front (encode (book ms) a.fields.now) 4 judge-book-fields2.result q.fields _ _ (rw (all_left c.args.k) at judge-book-fields2.ensures) q.is))

pub returns-in_err-n : goal.returns-in_err-n
returns-in_err-n c =
    let a = c.args in
    let j = c.judge_book_fields in
    let ms = take a.k a.counts in
    let q = rw (all_left c.args.k) at c.in_err-n.ensures in
    rw (err_is c.from_residual.result c.from_residual.ensures.1) (body_refused (λ o. within_pairs_by ms a.fields.now (fit_file (length a.out.now) o)) a.out.now (none_lent a.out.now j.new.out j.auto.out) c.in_err-n.field-0.0 (refused_by (write_finds 4 (book ms) a.fields.now) c.in_err-n.field-0.0 q))
