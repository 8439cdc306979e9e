-- Document 01, "Fields": the table of the fourteen tags.
use Rattle.std.specs.Prelude.{ℕ, ◌%◌, Bool, true, false, cond, List, [], ◌∷◌, eqb, ltb}

-- Where a tag may stand. A table has its kinds in rising order; the gaps are for kinds that later requests add.
abbrev pub no_kind : ℕ
no_kind = 0

abbrev pub rule_kind : ℕ
rule_kind = 10

abbrev pub definition_kind : ℕ
definition_kind = 30

abbrev pub goal_list_kind : ℕ
goal_list_kind = 40

-- a term of a hiproof, so also a term of a tactic
abbrev pub hiproof_kind : ℕ
hiproof_kind = 50

-- any other term of a tactic
abbrev pub tactic_kind : ℕ
tactic_kind = 60

abbrev pub entry_kind : ℕ
entry_kind = 70

-- a row of the table: the tag, where it may stand, the smallest and the greatest length of its contents, and the number of its inner terms
pub record Row : Type 0 where
  pub tag : ℕ
  pub kind : ℕ
  pub least : ℕ
  pub most : ℕ
  pub inner : ℕ

abbrev pub row : ℕ → ℕ → ℕ → ℕ → ℕ → Row
row t k l m i = record { tag = t; kind = k; least = l; most = m; inner = i }

-- the greatest number that two length bytes hold
abbrev pub any_length : ℕ
any_length = 65535

-- "Fourteen tags in all"
unfoldable pub rows : List Row
rows =
    row 1 rule_kind 4 20 0
    ∷ row 2 definition_kind 2 any_length 1
    ∷ row 3 goal_list_kind 0 any_length 0
    ∷ row 16 hiproof_kind 2 2 0
    ∷ row 17 hiproof_kind 0 0 0
    ∷ row 18 hiproof_kind 2 any_length 1
    ∷ row 19 hiproof_kind 0 any_length 2
    ∷ row 20 hiproof_kind 0 any_length 2
    ∷ row 21 hiproof_kind 0 0 0
    ∷ row 22 tactic_kind 0 any_length 2
    ∷ row 23 tactic_kind 2 2 0
    ∷ row 24 tactic_kind 2 2 0
    ∷ row 32 entry_kind 4 4 0
    ∷ row 33 entry_kind 2 2 0
    ∷ []

-- the first row of a tag; a number that is no tag may stand nowhere
unfoldable pub find_row : List Row → ℕ → Row
find_row [] t = row t no_kind 0 0 0
find_row (r ∷ rs) t = cond (eqb t r.tag) r (find_row rs t)

unfoldable pub row_of : ℕ → Row
row_of t = find_row rows t

-- the columns of the table, by tag
unfoldable pub kind_of : ℕ → ℕ
kind_of t = (row_of t).kind

unfoldable pub least_of : ℕ → ℕ
least_of t = (row_of t).least

unfoldable pub most_of : ℕ → ℕ
most_of t = (row_of t).most

unfoldable pub inner_of : ℕ → ℕ
inner_of t = (row_of t).inner

-- 4 does not hold: the length is neither too small nor too great for the tag, and contents without inner terms are whole values of 16 bits
unfoldable pub length_fits : (tag len : ℕ) → Bool
length_fits t n =
    cond (ltb n (least_of t)) false
    (cond (ltb (most_of t) n) false
    (cond (eqb (inner_of t) 0) (eqb (n % 2) 0) true))
