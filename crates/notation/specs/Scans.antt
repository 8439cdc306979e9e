-- P8: the scan of a text, byte by byte, and its refusals: "36, the first byte after which no text of the notation can follow, or the end if it comes early;
-- 37, a value over 65,535, at its first digit, when its last digit is read. 5 comes at the mark that makes the 4,097th term field, once complete and after any 37;
-- of these three the one met first in the text is given."
use Rattle.std.specs.Prelude.{ℕ, ◌+◌, ◌*◌, ◌-◌, Bool, true, cond, List, [], ◌∷◌, eqb, leb, ltb}
use Rattle.format.specs.Limits.{most_term_fields}
use Rattle.format.specs.declared.refusals.Cause.TheVariants.{LimitPassed, TextWrong, ValueTooLarge}
use Rattle.format.specs.Results.{Result, gives, refused, and_then}
use Rattle.notation.specs.Letters.{blank, letter_a, question, letter_t, letter_i, letter_d, less, greater, left_square, right_square, left_round, right_round, semicolon_byte, bar_byte, star_byte, is_digit}

-- What may come next: an operand is due, or one was read; or a mark is begun: by `a`, `?` or `T`, or by `[`, without a digit yet or with digits of that value; by `i`; by `<`.
pub data Mode : Type 0 where
  due : Mode
  had : Mode
  begun : Mode
  label_begun : Mode
  in_digits : (value : ℕ) → Mode
  in_label_digits : (value : ℕ) → Mode
  half_id : Mode
  half_empty : Mode

-- Where the scan stands: the place of the mark begun last, the brackets that are not closed yet, the term fields made, and the bytes of their headers and values.
pub record Scan : Type 0 where
  pub mode : Mode
  pub mark : ℕ
  pub depth : ℕ
  pub fields : ℕ
  pub size : ℕ

-- "37, a value over 65,535"
abbrev pub most_value : ℕ
most_value = 65535

abbrev pub scanned : Mode → (mark depth fields size : ℕ) → Scan
scanned m k d n z = record { mode = m; mark = k; depth = d; fields = n; size = z }

-- before the first byte
abbrev pub start : Scan
start = scanned due 0 0 0 0

-- another mode
abbrev pub turned : Mode → Scan → Scan
turned m σ = scanned m σ.mark σ.depth σ.fields σ.size

-- a mark begins here
abbrev pub begins : Mode → (at : ℕ) → Scan → Scan
begins m at σ = scanned m at σ.depth σ.fields σ.size

-- a mark that began at a place is complete and makes a field, with so many bytes of its own
unfoldable pub completes : Mode → (place bytes : ℕ) → Scan → Result Scan
completes m place bytes σ =
    cond (leb most_term_fields σ.fields) (refused LimitPassed place)
    (gives (scanned m σ.mark σ.depth (σ.fields + 1) (σ.size + bytes)))

-- one of the bytes `a`, `?` and `T`
unfoldable pub begins_numbered : ℕ → Bool
begins_numbered b = cond (eqb b letter_a) true (cond (eqb b question) true (eqb b letter_t))

unfoldable pub is_sign : ℕ → Bool
is_sign b = cond (eqb b semicolon_byte) true (cond (eqb b bar_byte) true (eqb b star_byte))

-- an operand is due
unfoldable pub on_due : Scan → (at b : ℕ) → Result Scan
on_due σ at b =
    cond (eqb b blank) (gives (turned due σ))
    (cond (begins_numbered b) (gives (begins begun at σ))
    (cond (eqb b letter_i) (gives (begins half_id at σ))
    (cond (eqb b less) (gives (begins half_empty at σ))
    (cond (eqb b left_square) (gives (begins label_begun at σ))
    (cond (eqb b left_round) (gives (scanned due σ.mark (σ.depth + 1) σ.fields σ.size))
    (refused TextWrong at))))))

-- an operand was read
unfoldable pub on_had : Scan → (at b : ℕ) → Result Scan
on_had σ at b =
    cond (eqb b blank) (gives (turned had σ))
    (cond (is_sign b) (completes due at 3 σ)
    (cond (eqb b right_round) (cond (eqb σ.depth 0) (refused TextWrong at) (gives (scanned had σ.mark (σ.depth - 1) σ.fields σ.size)))
    (refused TextWrong at)))

-- the value with one digit more; a value that is too large stays so
unfoldable pub digit_more : (v b : ℕ) → ℕ
digit_more v b = cond (ltb most_value v) v (v * 10 + (b - 48))

-- the last digit of `a12`, `?30` or `T4` was read
unfoldable pub leaf_ends : (v : ℕ) → Scan → Result Scan
leaf_ends v σ = cond (ltb most_value v) (refused ValueTooLarge (σ.mark + 1)) (completes had σ.mark 5 σ)

unfoldable pub on_digits : (v : ℕ) → Scan → (at b : ℕ) → Result Scan
on_digits v σ at b = cond (is_digit b) (gives (turned (in_digits (digit_more v b)) σ)) (and_then (leaf_ends v σ) (λ τ. on_had τ at b))

-- behind the last digit of `[3]`
unfoldable pub label_ends : (v : ℕ) → Scan → (at b : ℕ) → Result Scan
label_ends v σ at b =
    cond (ltb most_value v) (refused ValueTooLarge (σ.mark + 1))
    (cond (eqb b right_square) (completes due σ.mark 5 σ)
    (refused TextWrong at))

unfoldable pub on_label_digits : (v : ℕ) → Scan → (at b : ℕ) → Result Scan
on_label_digits v σ at b = cond (is_digit b) (gives (turned (in_label_digits (digit_more v b)) σ)) (label_ends v σ at b)

-- the first digit behind `a`, `?`, `T` or `[`
unfoldable pub on_begun : Scan → (at b : ℕ) → Result Scan
on_begun σ at b = cond (is_digit b) (gives (turned (in_digits (b - 48)) σ)) (refused TextWrong at)

unfoldable pub on_label_begun : Scan → (at b : ℕ) → Result Scan
on_label_begun σ at b = cond (is_digit b) (gives (turned (in_label_digits (b - 48)) σ)) (refused TextWrong at)

-- the second byte of `id` and `<>`
unfoldable pub on_half : (second : ℕ) → Scan → (at b : ℕ) → Result Scan
on_half second σ at b = cond (eqb b second) (completes had σ.mark 3 σ) (refused TextWrong at)

-- one more byte
unfoldable pub step_in : Mode → Scan → (at b : ℕ) → Result Scan
step_in due σ at b = on_due σ at b
step_in had σ at b = on_had σ at b
step_in begun σ at b = on_begun σ at b
step_in label_begun σ at b = on_label_begun σ at b
step_in (in_digits v) σ at b = on_digits v σ at b
step_in (in_label_digits v) σ at b = on_label_digits v σ at b
step_in half_id σ at b = on_half letter_d σ at b
step_in half_empty σ at b = on_half greater σ at b

unfoldable pub step : Scan → (at b : ℕ) → Result Scan
step σ at b = step_in σ.mode σ at b

-- every bracket is closed
unfoldable pub finished : Scan → (at : ℕ) → Result Scan
finished σ at = cond (eqb σ.depth 0) (gives σ) (refused TextWrong at)

-- the end of the text, at its length
unfoldable pub end_in : Mode → Scan → (at : ℕ) → Result Scan
end_in due σ at = refused TextWrong at
end_in had σ at = finished σ at
end_in begun σ at = refused TextWrong at
end_in label_begun σ at = refused TextWrong at
end_in (in_digits v) σ at = and_then (leaf_ends v σ) (λ τ. finished τ at)
end_in (in_label_digits v) σ at = cond (ltb most_value v) (refused ValueTooLarge (σ.mark + 1)) (refused TextWrong at)
end_in half_id σ at = refused TextWrong at
end_in half_empty σ at = refused TextWrong at

unfoldable pub at_end : Scan → (at : ℕ) → Result Scan
at_end σ at = end_in σ.mode σ at

-- the bytes from a place to the end of the text
unfoldable pub scan : Scan → (at : ℕ) → List ℕ → Result Scan
scan σ at [] = at_end σ at
scan σ at (b ∷ s) = and_then (step σ at b) (λ τ. scan τ (at + 1) s)
