-- Stores in front of a list, and a part of a list that was lent: what the whole is then. By the first bytes of the list, and by taking it apart where the part begins.
-- Assumes nothing.
use Prim.Native.Nat.{ℕ, suc, ◌+◌, ◌-◌, ◌≤◌, ◌<◌}
use mathlib.Core.Path.{◌≡◌, refl, sym, ap, ◌∙◌}
use mathlib.Core.List.{List, [], ◌∷◌, ◌++◌, append_assoc, append-nil}
use native.Mathlib.Omega.{arith}
use lib.ListN.{length, set, take, drop, length-append, length-drop, drop_of_length-le}
use lib.Seq.{length-take-le, drop-drop, drop_at, take_all, take-append_seam, drop-append_seam}
use borrow.Rule.Slice.PartMut.{put_mid, same_len_mid}
use Rattle.words.specs.Word.{word, put_word}
use Rattle.format.specs.declared.values.RuleName.{RuleName}
use Rattle.format.specs.Terms.{Term, atomic, id, label, sequence, tensor, empty, alternation, assert, defined, size}
use Rattle.format.specs.Encoding.{word_bytes, field_bytes, term_bytes}
use Rattle.format.proofs.Encoded.{length-term_bytes}
use Rattle.format.proofs.FieldBytes.{field_lies}
use Rattle.writer.specs.Fields.{header}

pub header_stored : (o : List ℕ) (tag len : ℕ) → 3 ≤ length o → put_word (set o 0 tag) 1 len ≡ header tag len ++ drop 3 o
unfolding put_word
header_stored [] tag len h = absurd (omega arith)
header_stored (a ∷ []) tag len h = absurd (omega arith)
header_stored (a ∷ b ∷ []) tag len h = absurd (omega arith)
header_stored (a ∷ b ∷ c ∷ o) tag len h = refl

pub atomic_stored : (o : List ℕ) (name : RuleName) → 5 ≤ length o → put_word (header 16 2 ++ drop 3 o) 3 name.0 ≡ term_bytes (atomic name) ++ drop 5 o
unfolding put_word term_bytes
atomic_stored [] name h = absurd (omega arith)
atomic_stored (a ∷ []) name h = absurd (omega arith)
atomic_stored (a ∷ b ∷ []) name h = absurd (omega arith)
atomic_stored (a ∷ b ∷ c ∷ []) name h = absurd (omega arith)
atomic_stored (a ∷ b ∷ c ∷ d ∷ []) name h = absurd (omega arith)
atomic_stored (a ∷ b ∷ c ∷ d ∷ e ∷ o) name h = refl

-- o with z in it from place a on
abbrev pub placed : ℕ → List ℕ → List ℕ → List ℕ
placed a o z = take a o ++ (z ++ drop (length z) (drop a o))

pub tail_part : (a : ℕ) (o : List ℕ) → take (length o - a) (drop a o) ≡ drop a o
tail_part a o = take_all (length o - a) (drop a o) (omega (arith, length-drop a o))

pub after : (a : ℕ) (o w : List ℕ) → take a o ++ (w ++ drop (length o - a) (drop a o)) ≡ take a o ++ w
after a o w =
    let past : length (drop a o) ≤ length o - a = omega (arith, length-drop a o) in
    rw (drop_of_length-le (drop a o) past, append-nil)

-- a callee that was lent everything from a on and put z at its start
pub put-placed : (a n : ℕ) (o l z : List ℕ) → n ≡ length z → l ≡ z ++ drop n (take (length o - a) (drop a o))
    → put_mid a (length o - a) o l ≡ placed a o z
put-placed a n o l z e h =
    rw (h, tail_part a o, e) (after a o (z ++ drop (length z) (drop a o)))

-- two parts, one behind the other, and the header in front of them
joined : (x y o : List ℕ) (from : ℕ) → from ≡ length x + 3 → from + length y ≤ length o
    → drop 3 (placed from (placed 3 o x) y) ≡ (x ++ y) ++ drop (3 + (length x + length y)) o
joined x y [] from e h = absurd (omega arith)
joined x y (a ∷ []) from e h = absurd (omega arith)
joined x y (a ∷ b ∷ []) from e h = absurd (omega arith)
joined x y (a ∷ b ∷ c ∷ r) from e h =
    let f : from ≡ suc (suc (suc (length x))) = omega arith in
    let g : 3 + (length x + length y) ≡ suc (suc (suc (length x + length y))) = omega arith in
    rw (f, g, take-append_seam x (drop (length x) r), drop-append_seam x (drop (length x) r), drop-drop (length y) (length x) r)
    (sym (append_assoc x y (drop (length x + length y) r)))

pub room_is : (a : ℕ) (o : List ℕ) → length (take (length o - a) (drop a o)) ≡ length o - a
room_is a o = ap length (tail_part a o) ∙ length-drop a o

pub length-put : (a : ℕ) (o l : List ℕ) → length l ≡ length (take (length o - a) (drop a o)) → length (put_mid a (length o - a) o l) ≡ length o
length-put a o l e = same_len_mid a (length o - a) o l e

-- a term in what was lent from a place on: its size is read back from its header
field_of : (t : Term) → (tag : ℕ) × (l : List ℕ) × (term_bytes t ≡ field_bytes tag l)
unfolding term_bytes
field_of (atomic a) = (16, word_bytes a.0, refl)
field_of id = (17, [], refl)
field_of (label l t) = (18, word_bytes l.0 ++ term_bytes t, refl)
field_of (sequence t u) = (19, term_bytes t ++ term_bytes u, refl)
field_of (tensor t u) = (20, term_bytes t ++ term_bytes u, refl)
field_of empty = (21, [], refl)
field_of (alternation t u) = (22, term_bytes t ++ term_bytes u, refl)
field_of (assert γ) = (23, word_bytes γ.0, refl)
field_of (defined n) = (24, word_bytes n.0, refl)

read_back : (t : Term) (s : List ℕ) (a : ℕ) (r : List ℕ) → size t < 65536 → drop a s ≡ term_bytes t ++ r → 3 + word s (a + 1) ≡ size t
read_back t s a r h e =
    let f = field_of t in
    let len : 3 + length f.1 ≡ size t = omega (arith, ap length f.2, length-term_bytes t) in
    let head = (field_lies s a f.0 (length f.1) f.1 r refl (omega arith) (e ∙ ap (λ (l : List ℕ). l ++ r) f.2)).0 in
    omega (arith, head.length_is)

pub lent_size : (t : Term) (a : ℕ) (o o' l : List ℕ) → a ≤ length o → size t < 65536 → l ≡ term_bytes t ++ drop (size t) (take (length o - a) (drop a o)) → o' ≡ put_mid a (length o - a) o l
    → 3 + word o' (a + 1) ≡ size t
lent_size t a o o' l h small b p =
    let q : o' ≡ placed a o (term_bytes t) = p ∙ put-placed a (size t) o l (term_bytes t) (sym (length-term_bytes t)) b in
    read_back t o' a (drop (length (term_bytes t)) (drop a o)) small (ap (drop a) q ∙ drop_at (take a o) _ a (length-take-le a o h))

-- two inner terms behind a header
pub pair_bytes : (x y : Term) (tag : ℕ) (o o1 o2 o3 l1 l2 : List ℕ) (k from len : ℕ)
    → k ≡ 3 → from ≡ 3 + size x → 3 + (size x + size y) ≤ length o → len ≡ size x + size y
    → l1 ≡ term_bytes x ++ drop (size x) (take (length o - k) (drop k o)) → o1 ≡ put_mid k (length o - k) o l1
    → l2 ≡ term_bytes y ++ drop (size y) (take (length o1 - from) (drop from o1)) → o2 ≡ put_mid from (length o1 - from) o1 l2
    → o3 ≡ header tag len ++ drop 3 o2
    → o3 ≡ field_bytes tag (term_bytes x ++ term_bytes y) ++ drop (3 + size x + size y) o
pair_bytes x y tag o o1 o2 o3 l1 l2 k from len ek ef room el b1 p1 b2 p2 b3 =
    let lx : size x ≡ length (term_bytes x) = sym (length-term_bytes x) in
    let ly : size y ≡ length (term_bytes y) = sym (length-term_bytes y) in
    let q1 : o1 ≡ placed 3 o (term_bytes x) = p1 ∙ put-placed k (size x) o l1 (term_bytes x) lx b1 ∙ ap (λ (j : ℕ). placed j o (term_bytes x)) ek in
    let q2 : o2 ≡ placed from o1 (term_bytes y) = p2 ∙ put-placed from (size y) o1 l2 (term_bytes y) ly b2 in
    let q3 : o2 ≡ placed from (placed 3 o (term_bytes x)) (term_bytes y) = q2 ∙ ap (λ (l : List ℕ). placed from l (term_bytes y)) q1 in
    let f : from ≡ length (term_bytes x) + 3 = omega arith in
    let g : from + length (term_bytes y) ≤ length o = omega arith in
    let j : drop 3 o2 ≡ (term_bytes x ++ term_bytes y) ++ drop (3 + (length (term_bytes x) + length (term_bytes y))) o = ap (drop 3) q3 ∙ joined (term_bytes x) (term_bytes y) o from f g in
    let m : len ≡ length (term_bytes x ++ term_bytes y) = omega (arith, length-append (term_bytes x) (term_bytes y)) in
    let z : 3 + (length (term_bytes x) + length (term_bytes y)) ≡ 3 + size x + size y = omega arith in
    b3 ∙ ap (λ (l : List ℕ). header tag len ++ l) j
    ∙ ap (λ (w : ℕ). header tag w ++ ((term_bytes x ++ term_bytes y) ++ drop (3 + (length (term_bytes x) + length (term_bytes y))) o)) m
    ∙ ap (λ (w : ℕ). header tag (length (term_bytes x ++ term_bytes y)) ++ ((term_bytes x ++ term_bytes y) ++ drop w o)) z
