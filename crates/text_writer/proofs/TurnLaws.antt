-- A turn of the writing: one law for each kind of term.
-- Assumes nothing.
use mathlib.Core.Path.{◌≡◌, sym, ap, subst, ◌∙◌}
use mathlib.Core.Bool.{true, false}
use mathlib.Core.List.{List, [], ◌∷◌, ◌++◌, append_assoc}
use Prim.Native.Nat.{ℕ, ◌+◌, ◌≤◌, ◌<◌}
use native.Mathlib.Omega.{arith}
use lib.ListN.{length, get_or, set}
use lib.Seq.{sets}
use Rattle.words.specs.Word.{word}
use Rattle.format.specs.Terms.{Term, size}
use Rattle.format.proofs.StandsLaws.{tag_of, known}
use Rattle.text_writer.specs.declared.writing.Writing.{Writing}
use Rattle.notation.specs.Signs.{is_pair, rank_tag}
use Rattle.text_writer.specs.Spelling.{text_in, wraps_tag, sign_text, label_text, leaf_text, leaf_size}
use Rattle.text_writer.specs.Stack.{Frame, bracket, pair, stack_place, pair_byte, frame_byte, rest_text, rest_fields, RightsStand}
use Rattle.text_writer.specs.Writing.{most_frames, writing_room, opened, into_pair, passed, Holds, Due, Plain, Rests, Going, due}
use Rattle.text_writer.proofs.TextByTag.{wrap_text, unwrapped, pair_text, label_text_lem, leaf_text_lem, pair_tag, some_fields}
use Rattle.text_writer.proofs.StackLaws.{total, spell, push}

-- what is to be written, in other words
as_todo : (whole w : List ℕ) (len top : ℕ) (todo other : List ℕ) (fs : List Frame) → todo ≡ other → Holds whole w len top todo fs → Holds whole w len top other fs
as_todo whole w len top todo other fs e h = subst (λ (l : List ℕ). Holds whole w len top l fs) e h

-- what the code asks of a state in which a term is due
pub record Bounds (s w : List ℕ) (x : Writing) (most : ℕ) (t : Term) (fs : List Frame) : Type 0 where
  pub before : x.at + size t ≤ length s
  pub inside : x.at + 3 ≤ length s
  pub short : x.len < stack_place
  pub frames : stack_place + x.top + 2 ≤ stack_place + most
  pub room : writing_room ≤ length w
  pub file : length s ≤ 65535

pub bounds : (s whole w : List ℕ) (most : ℕ) (x : Writing) (t : Term) (fs : List Frame) → Due s whole w most x t fs → Bounds s w x most t fs
bounds s whole w most x t fs d =
    let k = known s x.at t d.stands in
    let h = d.held in
    record {
      before = k.inside;
      inside = omega (arith, k.inside, k.three);
      short = omega (arith, total whole w x.len x.top _ fs h, h.short);
      frames = omega (arith, h.height, d.few, some_fields t);
      room = h.room;
      file = d.file;
    }

module _ (s whole w : List ℕ) (x : Writing) (t : Term) (fs : List Frame) where
  -- a bracket
  pub bracket_law : Due s whole w most_frames x t fs → wraps_tag (get_or s x.at 0) x.binds x.followed ≡ true → (w' : List ℕ) → w' ≡ set (set w x.len 40) (stack_place + x.top) 0 → (r : Writing) → r ≡ opened x → Due s whole w' (most_frames + 1) r t (bracket ∷ fs)
  unfolding frame_byte rest_text rest_fields RightsStand
  bracket_law d e w' v r q =
      let k = known s x.at t d.stands in
      let wrapped = wrap_text t x.binds x.followed (subst (λ (n : ℕ). wraps_tag n x.binds x.followed ≡ true) k.tag_is e) in
      let text : text_in t x.binds x.followed ++ rest_text fs ≡ (40 ∷ []) ++ (text_in t 0 false ++ (41 ∷ rest_text fs)) = ap (λ (l : List ℕ). l ++ rest_text fs) wrapped ∙ ap (λ (l : List ℕ). 40 ∷ l) (append_assoc (text_in t 0 false) (41 ∷ []) (rest_text fs)) in
      let one = spell whole w x.len x.top (40 ∷ []) (text_in t 0 false ++ (41 ∷ rest_text fs)) fs (as_todo whole w x.len x.top _ _ fs text d.held) in
      let two = push whole (set w x.len 40) (x.len + 1) x.top bracket (text_in t 0 false ++ (41 ∷ rest_text fs)) fs (omega (arith, d.few, some_fields t)) one in
      subst (λ (y : Writing). Due s whole w' (most_frames + 1) y t (bracket ∷ fs)) (sym q) (subst (λ (l : List ℕ). Due s whole l (most_frames + 1) (opened x) t (bracket ∷ fs)) (sym v) (record {
        held = two;
        file = d.file;
        stands = d.stands;
        rights = d.rights;
        few = omega (arith, d.few);
      }))

  -- and then the term needs none
  abbrev pub bracket_plain : Due s whole w most_frames x t fs → (tag : ℕ) → tag ≡ get_or s x.at 0 → wraps_tag tag x.binds x.followed ≡ true → (w' : List ℕ) → w' ≡ set (set w x.len 40) (stack_place + x.top) 0 → (r : Writing) → r ≡ opened x → Plain s w' r tag
  bracket_plain d tag i e w' v r q = record {
    whole = whole;
    term = t;
    frames = bracket ∷ fs;
    due = bracket_law d (subst (λ (n : ℕ). wraps_tag n x.binds x.followed ≡ true) i e) w' v r q;
    tag_is = subst (λ (y : Writing). tag ≡ get_or s y.at 0) (sym q) i;
    bare = subst (λ (y : Writing). wraps_tag tag y.binds y.followed ≡ false) (sym q) (unwrapped tag);
  }

  -- a term that needs no brackets
  abbrev pub plain_law : Due s whole w most_frames x t fs → (tag : ℕ) → tag ≡ get_or s x.at 0 → wraps_tag tag x.binds x.followed ≡ false → Plain s w x tag
  plain_law d tag i e = record {
    whole = whole;
    term = t;
    frames = fs;
    due = record { held = d.held; file = d.file; stands = d.stands; rights = d.rights; few = omega (arith, d.few) };
    tag_is = i;
    bare = e;
  }

-- the first mark of a term that needs no brackets
module _ (s w : List ℕ) (x : Writing) (tag : ℕ) (p : Plain s w x tag) where
  abbrev whole : List ℕ
  whole = p.whole

  abbrev t : Term
  t = p.term

  abbrev fs : List Frame
  fs = p.frames

  abbrev d : Due s whole w (most_frames + 1) x t fs
  d = p.due

  pub plain_bounds : Bounds s w x (most_frames + 1) t fs
  plain_bounds = bounds s whole w (most_frames + 1) x t fs d

  tag_of_lem : tag ≡ tag_of t
  tag_of_lem = p.tag_is ∙ (known s x.at t d.stands).tag_is

  bare_of : wraps_tag (tag_of t) x.binds x.followed ≡ false
  bare_of = subst (λ (n : ℕ). wraps_tag n x.binds x.followed ≡ false) tag_of_lem p.bare

  -- a pair
  pub pair_room : is_pair tag ≡ true → (tag < 64) × (stack_place + x.top < length w)
  pair_room e =
      let a = pair_text s x.at t x.binds x.followed d.stands (subst (λ (n : ℕ). is_pair n ≡ true) tag_of_lem e) bare_of in
      let h = d.held in
      (omega (arith, (pair_tag tag e).1), omega (arith, h.height, h.room, d.few, a.counts, some_fields a.left))

  pub pair_law : is_pair tag ≡ true → (w' : List ℕ) → w' ≡ set w (stack_place + x.top) (pair_byte tag x.followed) → (r : Writing) → r ≡ into_pair x tag → Going s whole w' r × (x.at < r.at)
  unfolding frame_byte rest_text rest_fields RightsStand
  pair_law e w' v r q =
      let a = pair_text s x.at t x.binds x.followed d.stands (subst (λ (n : ℕ). is_pair n ≡ true) tag_of_lem e) bare_of in
      let l = a.left in
      let u = a.right in
      let named = subst (λ (n : ℕ). text_in t x.binds x.followed ≡ text_in l (rank_tag n + 1) true ++ (sign_text n ++ text_in u (rank_tag n) x.followed)) (sym tag_of_lem) a.text in
      let frame = pair tag u x.followed in
      let text : text_in t x.binds x.followed ++ rest_text fs ≡ text_in l (rank_tag tag + 1) true ++ rest_text (frame ∷ fs) =
      ap (λ (y : List ℕ). y ++ rest_text fs) named
      ∙ append_assoc (text_in l (rank_tag tag + 1) true) (sign_text tag ++ text_in u (rank_tag tag) x.followed) (rest_text fs)
      ∙ ap (λ (y : List ℕ). text_in l (rank_tag tag + 1) true ++ y) (append_assoc (sign_text tag) (text_in u (rank_tag tag) x.followed) (rest_text fs)) in
      let todo = text_in l (rank_tag tag + 1) true ++ rest_text (frame ∷ fs) in
      let one = push whole w x.len x.top frame todo fs (omega (arith, d.few, a.counts, some_fields l)) (as_todo whole w x.len x.top _ todo fs text d.held) in
      let ends : x.at + size t ≡ x.at + 3 + size l + size u = omega (arith, a.sizes) in
      let next : Due s whole (set w (stack_place + x.top) (pair_byte tag x.followed)) most_frames (into_pair x tag) l (frame ∷ fs) = record {
        held = one;
        file = d.file;
        stands = a.left_stands;
        rights = (e, a.right_stands, subst (λ (i : ℕ). RightsStand s i fs) ends d.rights);
        few = omega (arith, d.few, a.counts);
      } in
      let on : Due s whole w' most_frames r l (frame ∷ fs) = subst (λ (y : Writing). Due s whole w' most_frames y l (frame ∷ fs)) (sym q) (subst (λ (y : List ℕ). Due s whole y most_frames (into_pair x tag) l (frame ∷ fs)) (sym v) next) in
      (due l (frame ∷ fs) on, subst (λ (y : Writing). x.at < y.at) (sym q) (omega arith))

  -- a label
  pub label_room : tag ≡ 18 → x.at + 5 ≤ length s
  label_room e =
      let a = label_text_lem s x.at t x.binds x.followed d.stands (sym tag_of_lem ∙ e) bare_of in
      omega (arith, plain_bounds.before, a.sizes)

  pub label_law : tag ≡ 18 → (w' : List ℕ) → w' ≡ sets w x.len (label_text (word s (x.at + 3))) → (r : Writing) → r ≡ passed x 5 (length (label_text (word s (x.at + 3)))) → Going s whole w' r × (x.at < r.at)
  label_law e w' v r q =
      let a = label_text_lem s x.at t x.binds x.followed d.stands (sym tag_of_lem ∙ e) bare_of in
      let l = label_text (word s (x.at + 3)) in
      let i = a.inner in
      let todo = text_in i 0 false ++ rest_text fs in
      let text : text_in t x.binds x.followed ++ rest_text fs ≡ l ++ todo = ap (λ (y : List ℕ). y ++ rest_text fs) a.text ∙ append_assoc l (text_in i 0 false) (rest_text fs) in
      let one = spell whole w x.len x.top l todo fs (as_todo whole w x.len x.top _ (l ++ todo) fs text d.held) in
      let ends : x.at + size t ≡ x.at + 5 + size i = omega (arith, a.sizes) in
      let next : Due s whole (sets w x.len l) most_frames (passed x 5 (length l)) i fs = record {
        held = one;
        file = d.file;
        stands = a.stands;
        rights = subst (λ (n : ℕ). RightsStand s n fs) ends d.rights;
        few = omega (arith, d.few, a.counts);
      } in
      let on : Due s whole w' most_frames r i fs = subst (λ (y : Writing). Due s whole w' most_frames y i fs) (sym q) (subst (λ (y : List ℕ). Due s whole y most_frames (passed x 5 (length l)) i fs) (sym v) next) in
      (due i fs on, subst (λ (y : Writing). x.at < y.at) (sym q) (omega arith))

  -- a leaf
  module _ (e : is_pair tag ≡ false) (n : tag ≡ 18 → ⊥) where
    abbrev m : ℕ
    m = leaf_size tag

    sizes : m ≡ size t
    sizes =
        let a = leaf_text_lem s x.at t x.binds x.followed d.stands (subst (λ (k : ℕ). is_pair k ≡ false) tag_of_lem e) (λ z. n (tag_of_lem ∙ z)) in
        ap leaf_size tag_of_lem ∙ a.sizes

    pub leaf_room : x.at + m ≤ length s
    leaf_room = omega (arith, sizes, plain_bounds.before)

    pub leaf_law : (w' : List ℕ) → w' ≡ sets w x.len (leaf_text tag (word s (x.at + 3))) → (r : Writing) → r ≡ passed x m (length (leaf_text tag (word s (x.at + 3)))) → Rests s whole w' r fs × (x.at < r.at)
    leaf_law w' v r q =
        let a = leaf_text_lem s x.at t x.binds x.followed d.stands (subst (λ (k : ℕ). is_pair k ≡ false) tag_of_lem e) (λ z. n (tag_of_lem ∙ z)) in
        let l = leaf_text tag (word s (x.at + 3)) in
        let text : text_in t x.binds x.followed ++ rest_text fs ≡ l ++ rest_text fs = ap (λ (y : List ℕ). y ++ rest_text fs) (a.text ∙ ap (λ (k : ℕ). leaf_text k (word s (x.at + 3))) (sym tag_of_lem)) in
        let one = spell whole w x.len x.top l (rest_text fs) fs (as_todo whole w x.len x.top _ (l ++ rest_text fs) fs text d.held) in
        let ends : x.at + size t ≡ x.at + m = omega (arith, sizes) in
        let next : Rests s whole (sets w x.len l) (passed x m (length l)) fs = record {
          held = one;
          file = d.file;
          rights = subst (λ (i : ℕ). RightsStand s i fs) ends d.rights;
          few = omega (arith, d.few, some_fields t);
        } in
        let on : Rests s whole w' r fs = subst (λ (y : Writing). Rests s whole w' y fs) (sym q) (subst (λ (y : List ℕ). Rests s whole y (passed x m (length l)) fs) (sym v) next) in
        (on, subst (λ (y : Writing). x.at < y.at) (sym q) (omega (arith, sizes, (known s x.at t d.stands).three)))
