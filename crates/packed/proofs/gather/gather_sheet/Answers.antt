-- `packed::gather::gather_sheet` meets its contract.
use Prim.Native.Nat.{ℕ, ◌+◌}
use mathlib.Core.Path.{ap, ◌∙◌}
use native.Mathlib.Omega.{arith}
use Rattle.packed.specs.Bits.{gap}
use Rattle.packed.specs.Walks.{pairs_at, lists_first, lists_end}
use Rattle.packed.proofs.Gathering.{adds_same}
use Rattle.packed.proofs.gather.gather_sheet.Goals as goal

pub returns : goal.returns
returns c =
    let args = c.args in
    let lists_at = c.lists_at-lists in
    let gather-lists = c.gather_lists-w in
    let next-sheet = c.next_sheet in
    let n = lists_at.ensures in
    let g = gather-lists.ensures in
    let e = next-sheet.ensures in
    let s = args.s.now in
    let at = lists_first args.start in (
      e.0 ∙ ap (λ (x : ℕ). x + gap x) (g.0 ∙ ap (lists_end s at) n.0),
      omega (arith, e.1, g.1, n.1),
      adds_same (ap (pairs_at s at) n.0) g.2,
    )
