-- What reads as a term in the grammar is read as that term from the right, so that marks have one reading at the most.
-- Assumes nothing.
use mathlib.Core.Path.{◌≡◌, refl, sym, ap, ◌∙◌, subst}
use mathlib.Core.Bool.{Bool, cond}
use mathlib.Core.List.{List, [], ◌∷◌, ◌++◌, append_assoc, append-nil}
use mathlib.Core.Option.{some}
use Prim.Native.Nat.{ℕ, ◌≤◌, ◌<◌}
use native.Mathlib.Omega.{arith}
use borrow.Author.Tests.{le-leb, lt-leb}
use Rattle.format.specs.Terms.{Term}
use Rattle.notation.specs.Marks.{Sign, semicolon, bar, star, Mark, leaf, label_mark, sign, opening, closing, label_term, sign_term}
use Rattle.notation.specs.Grammar.{Level, sequences, alternations, tensors, operand, End, closed, opened, Reads, one_leaf, brackets, labelled, one_operand, with_star, one_tensor, with_bar, one_alternation, with_semicolon}
use Rattle.notation.specs.Written.{rank}
use Rattle.notation.specs.FromRight.{Frame, waiting, bracket, State, due, had, reduced_term, reduced_frames, unbracket, on_mark, state_of, whole_of, term_of}

abbrev pub rank_of : Level → ℕ
rank_of sequences = 0
rank_of alternations = 1
rank_of tensors = 2
rank_of operand = 3

-- the signs of the frames `gs` above `fs` all bind at least as tight as l, and with v they make t
pub data Above (l : ℕ) : Term → List Frame → Term → List Frame → Type 0 where
  settled : {t : Term} {fs : List Frame} → Above l t fs t fs
  one_more : {s : Sign} {v u t : Term} {gs fs : List Frame} → l ≤ rank s → Above l (sign_term s v u) gs t fs → Above l v (waiting s u ∷ gs) t fs

-- the first frame is no sign that binds as tight as n
abbrev pub Below : ℕ → List Frame → Type 0
Below n [] = Unit {0}
Below n (bracket ∷ fs) = Unit {0}
Below n (waiting s u ∷ fs) = rank s < n

pub reduced_above : {l : ℕ} {v t : Term} {gs fs : List Frame} (n : ℕ) → n ≤ l → Above l v gs t fs → reduced_term n v gs ≡ reduced_term n t fs
unfolding reduced_term
reduced_above n h settled = refl
reduced_above n h (one_more {s = s} {v = v} {u = u} {gs = gs} k a) = ap (λ (b : Bool). cond b (reduced_term n (sign_term s v u) gs) v) (le-leb n (rank s) (omega arith)) ∙ reduced_above n h a

pub left_above : {l : ℕ} {v t : Term} {gs fs : List Frame} (n : ℕ) → n ≤ l → Above l v gs t fs → reduced_frames n gs ≡ reduced_frames n fs
unfolding reduced_frames
left_above n h settled = refl
left_above n h (one_more {s = s} {u = u} {gs = gs} k a) = ap (λ (b : Bool). cond b (reduced_frames n gs) (waiting s u ∷ gs)) (le-leb n (rank s) (omega arith)) ∙ left_above n h a

pub reduced_below : (n : ℕ) (t : Term) (fs : List Frame) → Below n fs → reduced_term n t fs ≡ t
unfolding reduced_term
reduced_below n t [] h = refl
reduced_below n t (bracket ∷ fs) h = refl
reduced_below n t (waiting s u ∷ fs) h = ap (λ (b : Bool). cond b (reduced_term n (sign_term s t u) fs) t) (lt-leb n (rank s) h)

pub left_below : (n : ℕ) (fs : List Frame) → Below n fs → reduced_frames n fs ≡ fs
unfolding reduced_frames
left_below n [] h = refl
left_below n (bracket ∷ fs) h = refl
left_below n (waiting s u ∷ fs) h = ap (λ (b : Bool). cond b (reduced_frames n fs) (waiting s u ∷ fs)) (lt-leb n (rank s) h)

below_more : {m n : ℕ} (fs : List Frame) → m ≤ n → Below m fs → Below n fs
below_more [] h b = tt
below_more (bracket ∷ fs) h b = tt
below_more (waiting s u ∷ fs) h b = omega arith

above_less : {l m : ℕ} {v t : Term} {gs fs : List Frame} → m ≤ l → Above l v gs t fs → Above m v gs t fs
above_less h settled = settled
above_less {l} {m} h (one_more {s = s} k a) = one_more {s = s} (omega arith) (above_less h a)

above_sign : {l m : ℕ} {v t u : Term} {s : Sign} {gs fs : List Frame} → m ≤ l → m ≤ rank s → Above l v gs t (waiting s u ∷ fs) → Above m v gs (sign_term s t u) fs
above_sign h k settled = one_more k settled
above_sign h k (one_more {s = s'} j a) = one_more {s = s'} (omega arith) (above_sign h k a)

-- the state is a term t, of that level, on the frames
pub record Got (l : ℕ) (t : Term) (fs : List Frame) (σ : State) : Type 0 where
  pub value : Term
  pub frames : List Frame
  pub is : σ ≡ had value frames
  pub above : Above l value frames t fs

-- what the frames must be behind marks that are closed, or that a label ends
abbrev pub Room : End → (l : ℕ) → List Frame → Type 0
Room closed l fs = Below l fs
Room opened l fs = Below 0 fs

room_below : (e : End) (l : ℕ) (fs : List Frame) → Room e l fs → Below l fs
room_below closed l fs h = h
room_below opened l fs h = below_more fs (omega arith) h

room_more : (e : End) {l m : ℕ} (fs : List Frame) → l ≤ m → Room e l fs → Room e m fs
room_more closed fs h r = below_more fs h r
room_more opened fs h r = r

-- at a sign, and behind it what stands to its left
sign_state : {r : ℕ} {u : Term} {fs : List Frame} {σ : State} (s : Sign) → r ≡ rank s → Below r fs → Got r u fs σ → on_mark (sign s) σ ≡ due (waiting s u ∷ fs)
unfolding on_mark
sign_state {r} {u} {fs} {σ} s e b g =
    ap (on_mark (sign s)) g.is
    ∙ ap (λ (x : Term). due (waiting s x ∷ reduced_frames (rank s) g.frames)) (subst (λ (n : ℕ). reduced_term n g.value g.frames ≡ u) e (reduced_above r (omega arith) g.above ∙ reduced_below r u fs b))
    ∙ ap (λ (x : List Frame). due (waiting s u ∷ x)) (subst (λ (n : ℕ). reduced_frames n g.frames ≡ fs) e (left_above r (omega arith) g.above ∙ left_below r fs b))

got_up : {l m : ℕ} {t : Term} {fs : List Frame} {σ : State} → l ≤ m → Got m t fs σ → Got l t fs σ
got_up h g = record { value = g.value; frames = g.frames; is = g.is; above = above_less h g.above }

got_sign : {l m : ℕ} {t u : Term} {fs : List Frame} {σ : State} (s : Sign) → l ≤ m → l ≤ rank s → Got m t (waiting s u ∷ fs) σ → Got l (sign_term s t u) fs σ
got_sign s h k g = record { value = g.value; frames = g.frames; is = g.is; above = above_sign h k g.above }

got_one : {l : ℕ} {t : Term} {fs : List Frame} {σ : State} → σ ≡ had t fs → Got l t fs σ
got_one {l} {t} {fs} e = record { value = t; frames = fs; is = e; above = settled }

got_at : {l : ℕ} {t : Term} {fs : List Frame} (σ τ : State) → τ ≡ σ → Got l t fs σ → Got l t fs τ
got_at σ τ e g = record { value = g.value; frames = g.frames; is = e ∙ g.is; above = g.above }

-- everything up to a bracket or the end is taken
got_all : {t : Term} {fs : List Frame} {σ : State} → Below 0 fs → (g : Got 0 t fs σ) → (reduced_term 0 g.value g.frames ≡ t) × (reduced_frames 0 g.frames ≡ fs)
got_all {t} {fs} b g = (reduced_above 0 (omega arith) g.above ∙ reduced_below 0 t fs b, left_above 0 (omega arith) g.above ∙ left_below 0 fs b)

state_append : (ms ns k : List Mark) → state_of ((ms ++ ns) ++ k) ≡ state_of (ms ++ (ns ++ k))
state_append ms ns k = ap state_of (append_assoc ms ns k)

pub reads_state : {l : Level} {e : End} {ms : List Mark} {t : Term} → Reads l e ms t → (k : List Mark) (fs : List Frame) → state_of k ≡ due fs → Room e (rank_of l) fs
    → Got (rank_of l) t fs (state_of (ms ++ k))
unfolding state_of on_mark unbracket
reads_state (one_leaf w) k fs h r = got_one (ap (on_mark (leaf w)) h)
reads_state (brackets {e = e} {ms = ms} {t = t} p) k fs h r =
    let g = reads_state p (closing ∷ k) (bracket ∷ fs) (ap (on_mark closing) h) (room e) in
    got_one
    (ap (on_mark opening) (state_append ms (closing ∷ []) k ∙ g.is)
    ∙ ap (λ (x : Term). unbracket x (reduced_frames 0 g.frames)) (got_all tt g).0
    ∙ ap (unbracket t) (got_all tt g).1)
  where
    room : (e : End) → Room e 0 (bracket ∷ fs)
    room closed = tt
    room opened = tt
reads_state (labelled n {e = e} {ms = ms} {t = t} p) k fs h r =
    let g = reads_state p k fs h (room e) in
    got_one
    (ap (on_mark (label_mark n)) g.is
    ∙ ap (λ (x : Term). had (label_term n x) (reduced_frames 0 g.frames)) (got_all r g).0
    ∙ ap (had (label_term n t)) (got_all r g).1)
  where
    room : (e : End) → Room e 0 fs
    room closed = r
    room opened = r
reads_state (one_operand {e = e} p) k fs h r = got_up (omega arith) (reads_state p k fs h (room_more e fs (omega arith) r))
reads_state (with_star {e = e} {ms = ms} {ns = ns} {t = t} {u = u} p q) k fs h r =
    let b = reads_state q k fs h r in
    let at = sign_state star refl (room_below e 2 fs r) b in
    got_at _ _ (state_append ms (sign star ∷ ns) k) (got_sign star (omega arith) (omega arith) (reads_state p (sign star ∷ (ns ++ k)) (waiting star u ∷ fs) at (omega arith)))
reads_state (one_tensor {e = e} p) k fs h r = got_up (omega arith) (reads_state p k fs h (room_more e fs (omega arith) r))
reads_state (with_bar {e = e} {ms = ms} {ns = ns} {t = t} {u = u} p q) k fs h r =
    let b = reads_state q k fs h r in
    let at = sign_state bar refl (room_below e 1 fs r) b in
    got_at _ _ (state_append ms (sign bar ∷ ns) k) (got_sign bar (omega arith) (omega arith) (reads_state p (sign bar ∷ (ns ++ k)) (waiting bar u ∷ fs) at (omega arith)))
reads_state (one_alternation {e = e} p) k fs h r = got_up (omega arith) (reads_state p k fs h (room_more e fs (omega arith) r))
reads_state (with_semicolon {e = e} {ms = ms} {ns = ns} {t = t} {u = u} p q) k fs h r =
    let b = reads_state q k fs h r in
    let at = sign_state semicolon refl (room_below e 0 fs r) b in
    got_at _ _ (state_append ms (sign semicolon ∷ ns) k) (got_sign semicolon (omega arith) (omega arith) (reads_state p (sign semicolon ∷ (ns ++ k)) (waiting semicolon u ∷ fs) at (omega arith)))

-- the marks of a reading are read as its term
pub reads_term : {e : End} {ms : List Mark} {t : Term} → Reads sequences e ms t → term_of (state_of ms) ≡ some t
unfolding term_of whole_of state_of
reads_term {e} {ms} {t} p =
    let g : Got 0 t [] (state_of (ms ++ [])) = reads_state p [] [] refl (room e) in
    ap (λ (m : List Mark). term_of (state_of m)) (sym (append-nil ms))
    ∙ ap term_of g.is
    ∙ ap (λ (x : Term). whole_of x (reduced_frames 0 g.frames)) (got_all tt g).0
    ∙ ap (whole_of t) (got_all tt g).1
  where
    room : (e : End) → Room e 0 []
    room closed = tt
    room opened = tt

-- marks have one reading at the most
pub reads_once : {d e : End} {ms : List Mark} {t u : Term} → Reads sequences d ms t → Reads sequences e ms u → t ≡ u
reads_once p q = let a = reads_term p in let b = reads_term q in cc
