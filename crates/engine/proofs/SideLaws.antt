-- The index places the pairs by their starts, and the numbers of the counting sort by their ends.
use mathlib.Core.Path.{refl}
use mathlib.Core.List.{List}
use Prim.Native.Nat.{ℕ, ◌<◌}
use native.Mathlib.Omega.{arith}
use lib.ListN.{length, get_or}
use Rattle.packed.specs.Contents.{word_from, word_to}
use Rattle.engine.specs.Sweeping.{Ends}
use Rattle.engine.specs.Places.{Firsts, Backs}
use Rattle.engine.specs.Sides.{Sided}
use Rattle.engine.proofs.IndexLaws.{range_rises, in_range, of_range}
use Rattle.engine.proofs.EndLaws.{ends_rise, ends_at, ends_of}

pub leaving_sided : {n d : ℕ} {w first : List ℕ} → Ends n d w → Firsts d n w first → Sided word_from n d w (λ v. get_or first v 0) (λ k. k) (λ k. Unit {0})
leaving_sided E F = record {
  below = E.from;
  placed = λ v l. record {
    rises = (range_rises F v l).0;
    most = (range_rises F v l).1;
    at = λ i m e. (let r = in_range F v l i m e in record { at = i; below = r.1; holds = (r.0, refl) });
    of = λ k a b. of_range F v l k a b;
  };
  numbered = λ k l. tt;
}

pub arriving_sided : {n d : ℕ} {w back rev : List ℕ} → Ends n d w → Backs d n w back rev → Sided word_to n d w (λ v. get_or back v 0) (λ k. get_or rev k 0) (λ k. k < length rev)
arriving_sided E B = record {
  below = E.to;
  placed = λ v l. record {
    rises = (ends_rise B v l).0;
    most = (ends_rise B v l).1;
    at = λ i m e. ends_at B v l i m e;
    of = λ k a b. ends_of B v l k a b;
  };
  numbered = λ k l. (let r = B.room in omega arith);
}
