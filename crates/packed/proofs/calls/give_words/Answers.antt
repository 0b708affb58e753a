-- `packed::calls::give_words` meets its contract.
use mathlib.Core.Path.{refl}
use native.Mathlib.Omega.{arith}
use lib.ListN.{take, length-take}
use borrow.Author.Tests.{lt-ltb, le-ltb}
use Rattle.packed.proofs.CallLaws.{fit_fits, fitted_tight, fitted_given, copied}
use Rattle.packed.proofs.calls.give_words.Goals as goal

pub returns-then-out-n : goal.returns-then-out-n
returns-then-out-n c =
    let pre = c.requires in
    let a = c.args in
    fitted_tight fit_fits a.out.now (take a.n a.words.now) refl refl (simp length-take (omega (arith, pre))) (lt-ltb _ _ c.if-out-n.true)

pub returns : goal.returns
returns c =
    let pre = c.requires in
    let if1 = c.if-out-n in
    let copy-words = c.copy_words in
    let a = c.args in
    fitted_given fit_fits a.out.now (take a.n a.words.now) refl refl (simp length-take (omega (arith, pre))) (le-ltb _ _ if1.false)
    (copied a.words.now a.out.now pre if1.false copy-words.ensures)
