-- `packed::matches::give_sheet` meets its contract.
use mathlib.Core.Path.{refl, ◌∙◌}
use Rattle.packed.proofs.CallLaws.{fit_file_fits, fitted_tight, fitted_given}
use Rattle.packed.proofs.MatchLaws.{bytes_number, bytes_front}
use Rattle.packed.proofs.matches.give_sheet.Goals as goal

pub returns-then-out-size : goal.returns-then-out-size
returns-then-out-size c =
    let args = c.args in
    let pre = c.requires in
    let size-from = c.size_from-size in
    let counts = c.counts-c in
    λ o e. fitted_tight fit_file_fits args.out.now o refl refl
    (size-from.ensures _ _ counts.ensures.0 ∙ bytes_number _ _ _ _ pre.0 e)
    c.if-out-size.true

pub returns : goal.returns
returns c =
    let args = c.args in
    let pre = c.requires in
    let counts = c.counts-c in
    let size-from = c.size_from-size in
    let if1 = c.if-out-size in
    let write-from = c.write_from in
    λ o e. fitted_given fit_file_fits args.out.now o refl refl
    (size-from.ensures _ _ counts.ensures.0 ∙ bytes_number _ _ _ _ pre.0 e)
    if1.false (bytes_front _ _ _ _ pre.0 e write-from.ensures)
