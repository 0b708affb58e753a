-- Texts of decisions 8.8, 8.9 and 8.12, by computation: two words are lent, each 9 before.
use Rattle.std.proofs.Common.{◌≡◌, ℕ, Bool, true, false, List, [], ◌∷◌, refl}
use Rattle.folder.specs.Numbers.{is_digit, onto, lines_of, all_digits, is_there, value_from, value_of, is_charge, Listed, list_of}
use Rattle.folder.specs.Numbers.{onto_piece, pieces_of, is_member, with_member, SetTold, members, failed, set_of}

abbrev charges : List ℕ → Listed
charges bs = list_of 0 (9 ∷ 9 ∷ []) (lines_of bs)

abbrev says : ℕ → Bool → List ℕ → Listed
says count good words = record { count = count; good = good; words = words }

abbrev set : List ℕ → SetTold
set bs = set_of 0 (pieces_of 1 bs)

-- 12⏎3
charges_two : charges (49 ∷ 50 ∷ 10 ∷ 51 ∷ []) ≡ says 2 true (12 ∷ 3 ∷ [])
unfolding is_digit onto lines_of all_digits is_there value_from value_of is_charge list_of
charges_two = refl

-- no bytes
charges_none : charges ([]) ≡ says 0 true (9 ∷ 9 ∷ [])
unfolding is_digit onto lines_of all_digits is_there value_from value_of is_charge list_of
charges_none = refl

-- 1⏎⏎
charges_empty_line : charges (49 ∷ 10 ∷ 10 ∷ []) ≡ says 2 false (1 ∷ 9 ∷ [])
unfolding is_digit onto lines_of all_digits is_there value_from value_of is_charge list_of
charges_empty_line = refl

-- 4294967295⏎
charges_largest : charges (52 ∷ 50 ∷ 57 ∷ 52 ∷ 57 ∷ 54 ∷ 55 ∷ 50 ∷ 57 ∷ 53 ∷ 10 ∷ []) ≡ says 1 true (4294967295 ∷ 9 ∷ [])
unfolding is_digit onto lines_of all_digits is_there value_from value_of is_charge list_of
charges_largest = refl

-- 4294967296⏎
charges_larger : charges (52 ∷ 50 ∷ 57 ∷ 52 ∷ 57 ∷ 54 ∷ 55 ∷ 50 ∷ 57 ∷ 54 ∷ 10 ∷ []) ≡ says 1 false (9 ∷ 9 ∷ [])
unfolding is_digit onto lines_of all_digits is_there value_from value_of is_charge list_of
charges_larger = refl

-- 007
charges_zeros : charges (48 ∷ 48 ∷ 55 ∷ []) ≡ says 1 true (7 ∷ 9 ∷ [])
unfolding is_digit onto lines_of all_digits is_there value_from value_of is_charge list_of
charges_zeros = refl

-- 1␍⏎
charges_return : charges (49 ∷ 13 ∷ 10 ∷ []) ≡ says 1 false (9 ∷ 9 ∷ [])
unfolding is_digit onto lines_of all_digits is_there value_from value_of is_charge list_of
charges_return = refl

-- 1⏎-2⏎
charges_sign : charges (49 ∷ 10 ∷ 45 ∷ 50 ∷ 10 ∷ []) ≡ says 2 false (1 ∷ 9 ∷ [])
unfolding is_digit onto lines_of all_digits is_there value_from value_of is_charge list_of
charges_sign = refl

-- 1⏎2⏎3⏎
charges_more : charges (49 ∷ 10 ∷ 50 ∷ 10 ∷ 51 ∷ 10 ∷ []) ≡ says 3 true (1 ∷ 2 ∷ [])
unfolding is_digit onto lines_of all_digits is_there value_from value_of is_charge list_of
charges_more = refl

-- 3 1⏎1
set_some : set (51 ∷ 32 ∷ 49 ∷ 10 ∷ 49 ∷ []) ≡ members 10
unfolding is_digit all_digits is_there value_from value_of onto_piece pieces_of is_member with_member set_of
set_some = refl

-- no bytes
set_nothing : set ([]) ≡ members 0
unfolding is_digit all_digits is_there value_from value_of onto_piece pieces_of is_member with_member set_of
set_nothing = refl

--   0⏎⏎ 15
set_gaps : set (32 ∷ 32 ∷ 48 ∷ 10 ∷ 10 ∷ 32 ∷ 49 ∷ 53 ∷ []) ≡ members 32769
unfolding is_digit all_digits is_there value_from value_of onto_piece pieces_of is_member with_member set_of
set_gaps = refl

-- 16
set_sixteen : set (49 ∷ 54 ∷ []) ≡ failed 1
unfolding is_digit all_digits is_there value_from value_of onto_piece pieces_of is_member with_member set_of
set_sixteen = refl

-- 1⏎2x⏎
set_letter : set (49 ∷ 10 ∷ 50 ∷ 120 ∷ 10 ∷ []) ≡ failed 2
unfolding is_digit all_digits is_there value_from value_of onto_piece pieces_of is_member with_member set_of
set_letter = refl

-- 1⏎⏎2,3
set_comma : set (49 ∷ 10 ∷ 10 ∷ 50 ∷ 44 ∷ 51 ∷ []) ≡ failed 3
unfolding is_digit all_digits is_there value_from value_of onto_piece pieces_of is_member with_member set_of
set_comma = refl
