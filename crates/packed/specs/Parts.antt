-- What calls, and the readers and writers of parts of a file, answer: the values, or the refusal.
use Rattle.std.specs.Prelude.{ℕ, Option, Result}
use Rattle.packed.specs.declared.reply.Refusal.{Refusal}

-- inner: one field
abbrev pub ReadValue : Type 0
ReadValue = Result ℕ Refusal

-- inner: two fields
abbrev pub ReadTwo : Type 0
ReadTwo = Result (ℕ × ℕ) Refusal

-- inner: three fields
abbrev pub ReadThree : Type 0
ReadThree = Result (ℕ × ℕ × ℕ) Refusal

-- inner: a part of a file: where it ends and which field comes next, or the refusal
abbrev pub Part : Type 0
Part = Result (ℕ × ℕ) Refusal

-- what a call with one output answers: how much of it was written, or the refusal
abbrev pub Reply : Type 0
Reply = Result ℕ Refusal

-- what a call with two outputs answers: how much of each was written, or the refusal
abbrev pub Both : Type 0
Both = Result (ℕ × ℕ) Refusal

-- inner: how many nodes and edges a record has, or the refusal
abbrev pub GraphSizes : Type 0
GraphSizes = Result (ℕ × ℕ) Refusal

-- inner: behind how many edges an edge enters; none where it stands there already
abbrev pub Place : Type 0
Place = Option ℕ
