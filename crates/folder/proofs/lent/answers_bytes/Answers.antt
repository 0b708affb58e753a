-- So long an array is not counted one by one.
use Rattle.std.proofs.Common.{◌≡◌, ℕ, length, sym}
use Rattle.std.proofs.lemmas.List.{length-replicate}
use Rattle.std.proofs.Math.ListN.{replicate}
use Rattle.folder.proofs.lent.answers_bytes.Goals as goal

long : 524288 ≡ length (replicate {A = ℕ} 524288 0)
long = sym (length-replicate {0} {A = ℕ} 524288 0)

pub returns : goal.returns
returns c = long
