-- A term ended and gave: what the innermost term that waits makes of it. One law for each return of `resume` and for its loop's turn.
-- Assumes nothing.
use Rattle.std.specs.Prelude.{Ok}
use mathlib.Core.Path.{◌≡◌, refl, sym, subst, ap, ap₂, ◌∙◌}
use mathlib.Core.Logic.{inl, inr}
use mathlib.Core.List.{List, [], ◌∷◌, ◌++◌}
use Prim.Native.Nat.{ℕ, ◌+◌, ◌*◌, ◌-◌, ◌/◌, ◌≤◌, ◌<◌}
use native.Mathlib.Omega.{arith}
use lib.ListN.{length, get_or, drop}
use lib.Seq.{paste}
use borrow.Author.Tests.{lt-ltb, le-ltb}
use Rattle.words.specs.Word.{word, put_word}
use Rattle.words.specs.Kept.{Kept}
use Rattle.words.proofs.WordLaws.{word_same}
use Rattle.words.proofs.KeptLaws.{kept_put, kept_same, kept_both, kept_copy, word_below}
use Rattle.format.specs.Limits.{most_joined}
use Rattle.format.specs.declared.refusals.Cause.TheVariants.{JoinedTooLong}
use Rattle.format.specs.Results.{gives, refused, and_then, refused_at}
use Rattle.format.specs.Terms.{Term, size}
use Rattle.input_arities.specs.Layout.{stack_end, frames_end}
use Rattle.input_arities.proofs.ArityLaws.{ahead_kept}
use Rattle.walks.specs.declared.state.Next.{Next}
use Rattle.walks.specs.declared.state.Turn.TheVariants as U
use Rattle.walks.specs.Layout.{began}
use Rattle.walks.specs.Values.{values_at}
use Rattle.walks.specs.Walks.{Act, out, joined_values, walk_of}
use Rattle.walks.specs.Waiting.{Waiting, sequence_left, tensor_left, tensor_right, resumed, pending, later, weight}
use Rattle.walks.specs.Shows.{Framed, Joins, Shown}
use Rattle.walks.specs.Loops.{Aim, BeginsWith, GaveWith, Gave, Turned, Steps}
use Rattle.walks.proofs.ValueLaws.{length_values, values_append, values_paste, values_below}
use Rattle.walks.proofs.ResumedLaws.{resumed_refused, weight-length}
use Rattle.walks.proofs.ShownLaws.{shown_depth, shown_kept}

-- what is known of the innermost frame
pub record TopFrame (s w : List ℕ) (frames : ℕ) : Type 0 where
  pub four : stack_end + 4 ≤ frames
  pub limited : frames ≤ frames_end
  pub place_inside : word w (frames - 4) < length s

-- a tensor's frame: its left term's end and its own, or where it began to give
pub record Bounds (w : List ℕ) (frames low end : ℕ) : Type 0 where
  pub rest : word w (frames - 4 + 2) < began → (end ≤ word w (frames - 4 + 2)) × (word w (frames - 4 + 2) ≤ stack_end)
  pub first : began ≤ word w (frames - 4 + 2) → word w (frames - 4 + 2) ≤ began + low

-- what is known whether a term waits or not; and of the innermost frame, where one does
pub record Resumes (s w : List ℕ) (low given end frames : ℕ) : Type 0 where
  pub room : low + given * 2 ≤ end
  pub below : end ≤ stack_end
  pub limited : frames ≤ frames_end
  pub enough : frames_end ≤ length w
  pub four : stack_end < frames → stack_end + 4 ≤ frames
  pub place_inside : stack_end < frames → word w (frames - 4) < length s
  pub no_sequence : stack_end < frames → (get_or s (word w (frames - 4)) 0 ≡ 19 → ⊥) → Bounds w frames low end

-- the innermost frame is a tensor's, as the code reads it
pub tensor_bounds : (s w : List ℕ) (low given end frames place value : ℕ) → Resumes s w low given end frames → stack_end < frames → place ≡ word w (frames - 4) → (get_or s place 0 ≡ 19 → ⊥) → value ≡ word w (frames - 4 + 2)
    → (value < began → end ≤ value) × (began ≤ value → value ≤ began + low)
tensor_bounds s w low given end frames place value r h p t e =
    let b : Bounds w frames low end = r.no_sequence h (λ u. t (ap (λ (i : ℕ). get_or s i 0) p ∙ u)) in
    (λ n. omega (arith, (b.rest (omega arith)).0), λ n. omega (arith, b.first (omega arith)))

module _ {C : Type 0} (act : Act C) (x : Aim C) (A : List C) (s w : List ℕ) (at low given end frames arity uses : ℕ) where
  abbrev G : List Waiting → Type 0
  G f = GaveWith act x A s w at low given end frames arity uses f

  abbrev Given : Type 0
  Given = Gave act x A s w at low given end frames arity uses

  -- the frame is the last before `frames`
  module _ (p q tag : ℕ) (o : Framed s w frames p q tag) where
    here : p ≡ frames - 4
    here = omega (arith, o.next)

    place_here : q ≡ word w (frames - 4)
    place_here = sym o.place_is ∙ ap (word w) here

    tag_here : get_or s (word w (frames - 4)) 0 ≡ tag
    tag_here = ap (λ (i : ℕ). get_or s i 0) (sym place_here) ∙ o.tag_is

    value_here : word w (p + 2) ≡ word w (frames - 4 + 2)
    value_here = ap (λ (j : ℕ). word w (j + 2)) here

  clash : {A : Type 0} (t : ℕ) → t ≡ 19 → t ≡ 20 → A
  clash t e f = absurd (omega (arith, e, f))

  nothing : {A : Type 0} → stack_end < frames → frames ≡ stack_end → A
  nothing h e = absurd (omega (arith, e))

  framed_top : (f : List Waiting) → G f → (p q tag : ℕ) → Framed s w frames p q tag → TopFrame s w frames
  framed_top f g p q tag o = record {
    four = omega (arith, o.next, o.above);
    limited = omega (arith, shown_depth s w f _ _ _ _ g.shown, weight-length f, g.depth);
    place_inside = subst (λ (i : ℕ). i < length s) (place_here p q tag o) o.inside;
  }

  top_frame : (f : List Waiting) → stack_end < frames → G f → TopFrame s w frames
  unfolding Shown
  top_frame [] h g = nothing h g.shown.0
  top_frame (sequence_left u r ∷ f) h g = framed_top (sequence_left u r ∷ f) g g.shown.0 g.shown.1 19 g.shown.2
  top_frame (tensor_left q u r k ∷ f) h g = framed_top (tensor_left q u r k ∷ f) g g.shown.0 q 20 g.shown.3
  top_frame (tensor_right q k ∷ f) h g = framed_top (tensor_right q k ∷ f) g g.shown.0 q 20 g.shown.3

  pub top_of : Given → stack_end < frames → TopFrame s w frames
  top_of g h = top_frame g.0 h g.1

  bounds : (f : List Waiting) → stack_end < frames → (get_or s (word w (frames - 4)) 0 ≡ 19 → ⊥) → G f → Bounds w frames low end
  unfolding Shown
  bounds [] h t g = nothing h g.shown.0
  bounds (sequence_left u r ∷ f) h t g = absurd (t (tag_here g.shown.0 g.shown.1 19 g.shown.2))
  bounds (tensor_left q u r k ∷ f) h t g =
      let y = g.shown.4 in
      let e = value_here g.shown.0 q 20 g.shown.3 in
      record {
        rest = λ n. (omega (arith, y.value_is, y.ends, e), omega (arith, y.value_is, y.below, e));
        first = λ n. absurd (omega (arith, y.value_is, y.below, e, n));
      }
  bounds (tensor_right q k ∷ f) h t g =
      let y = g.shown.4 in
      let e = value_here g.shown.0 q 20 g.shown.3 in
      record {
        rest = λ n. absurd (omega (arith, y.value_is, e, n));
        first = λ n. omega (arith, y.value_is, y.starts, e);
      }

  pub bounds_of : Given → stack_end < frames → (get_or s (word w (frames - 4)) 0 ≡ 19 → ⊥) → Bounds w frames low end
  bounds_of g h t = bounds g.0 h t g.1

  pub resumes : frames_end ≤ length w → Given → Resumes s w low given end frames
  resumes n g = record {
    room = omega (arith, g.1.room);
    below = g.1.below;
    limited = omega (arith, shown_depth s w g.0 _ _ _ _ g.1.shown, weight-length g.0, g.1.depth);
    enough = n;
    four = λ h. (top_of g h).four;
    place_inside = λ h. (top_of g h).place_inside;
    no_sequence = λ h n. bounds_of g h n;
  }

  -- the walk's end
  end_with : (f : List Waiting) → frames ≤ stack_end → G f → Turned act x A s w at (Ok (U.Ended (record { given = given; uses = uses })))
  unfolding Shown Turned resumed pending
  end_with [] h g = (
    g.same ∙ ap (λ (i : ℕ). gives (out A (values_at w i given))) g.shown.1,
    omega (arith, g.counted),
    omega (arith, g.room, g.below),
  )
  end_with (sequence_left u r ∷ f) h g = absurd (omega (arith, g.shown.2.next, g.shown.2.above))
  end_with (tensor_left q u r k ∷ f) h g = absurd (omega (arith, g.shown.3.next, g.shown.3.above))
  end_with (tensor_right q k ∷ f) h g = absurd (omega (arith, g.shown.3.next, g.shown.3.above))

  pub ended : Given → frames ≤ stack_end → Steps act x A s w w at (Ok (U.Ended (record { given = given; uses = uses })))
  ended g h = record { turned = end_with g.0 h g.1; kept = kept_same w _ _ }

  -- a sequence's right term is next, on what its left gave
  module _ (w' : List ℕ) (top : ℕ) (back : top + given * 2 ≡ end) (moved : w' ≡ paste w top (drop low w) (given * 2)) (enough : stack_end ≤ length w) where
    abbrev second_of : Next
    second_of = record { at = at; count = given; low = low; top = top; frames = frames - 4; arity = arity; uses = uses }

    moved-kept : low ≤ top → end ≤ stack_end → Kept w w' low end
    moved-kept l b = subst (λ (v : List ℕ). Kept w v low end) (sym moved) (kept_copy w w top low (given * 2) low end (omega arith) (omega arith) l (omega arith))

    sequence_main : (u : Term) (r : ℕ) (f : List Waiting) → G (sequence_left u r ∷ f) → BeginsWith act x A s w' second_of u f
    unfolding Shown resumed and_then pending later weight
    sequence_main u r f g =
        let y = g.shown in
        let k = moved-kept (omega (arith, g.room)) g.below in
        let there : values_at w' top given ≡ values_at w low given = ap (λ (l : List ℕ). values_at l top given) moved ∙ values_paste w w top low given (omega (arith, g.below)) (omega (arith, g.room, g.below)) in
        record {
          same = g.same ∙ ap₂ (λ (i : ℕ) (h : List ℕ). resumed act f (walk_of act u i A h)) y.3 (sym there);
          stands = y.4;
          ahead = ahead_kept w w' low end arity _ k (inl (omega (arith, g.below))) g.ahead;
          room = omega (arith, g.room);
          below = omega (arith, g.below);
          shown =
              subst (λ (i : ℕ). Shown s w' i (at + size u) low (top + given * 2) f) (here y.0 y.1 19 y.2)
              (subst (λ (i : ℕ). Shown s w' y.0 (at + size u) low i f) (sym back)
              (shown_kept s w w' low end k f y.0 (at + size u) low end (inl (omega arith, omega arith, g.below)) y.5));
          counted = omega (arith, g.counted);
          depth = omega (arith, g.depth);
        }

    sequence_turn : (f : List Waiting) → stack_end < frames → get_or s (word w (frames - 4)) 0 ≡ 19 → G f → Turned act x A s w' at (Ok (U.Begin second_of))
    unfolding Shown Turned
    sequence_turn [] h t g = nothing h g.shown.0
    sequence_turn (sequence_left u r ∷ f) h t g = ((u, f, sequence_main u r f g), omega arith)
    sequence_turn (tensor_left q u r k ∷ f) h t g = clash _ t (tag_here g.shown.0 q 20 g.shown.3)
    sequence_turn (tensor_right q k ∷ f) h t g = clash _ t (tag_here g.shown.0 q 20 g.shown.3)

    pub sequence_next_lem : Given → stack_end < frames → get_or s (word w (frames - 4)) 0 ≡ 19 → Steps act x A s w w' at (Ok (U.Begin second_of))
    sequence_next_lem g h t = record {
      turned = sequence_turn g.0 h t g.1;
      kept = kept_both w w' w' low end 0 frames_end 0 frames_end (moved-kept (omega (arith, g.1.room)) g.1.below) (kept_same w' _ _) (omega arith) (omega arith) (omega (arith, g.1.below)) (omega arith);
    }

  -- a tensor's right term is next, on the rest of its values
  module _ (w' : List ℕ) (own : ℕ) (own_is : own ≡ word w (frames - 4 + 2)) (stored : w' ≡ put_word w (frames - 4 + 2) (began + low)) (enough : frames_end ≤ length w) where
    abbrev beside_of : Next
    beside_of = record { at = at; count = (own - end) / 2; low = low + given * 2; top = end; frames = frames; arity = arity; uses = uses }

    stored_kept : Kept w w' (frames - 4 + 2) (frames - 4 + 2 + 2)
    stored_kept = subst (λ (v : List ℕ). Kept w v (frames - 4 + 2) (frames - 4 + 2 + 2)) (sym stored) (kept_put w (frames - 4 + 2) (began + low) (frames - 4 + 2) (frames - 4 + 2 + 2) (omega arith) (omega arith))

    tensor_main : TopFrame s w frames → (q : ℕ) (u : Term) (r : ℕ) (h : List ℕ) (f : List Waiting) → G (tensor_left q u r h ∷ f) → BeginsWith act x A s w' beside_of u (tensor_right q (values_at w low given) ∷ f)
    unfolding Shown resumed and_then pending later weight
    tensor_main m q u r h f g =
        let y = g.shown in
        let o = y.3 in
        let b = y.4 in
        let at_here = here y.0 q 20 o in
        let own-e : own ≡ y.1 = own_is ∙ sym (value_here y.0 q 20 o) ∙ b.value_is in
        let count_is : (own - end) / 2 ≡ y.2 = omega (arith, own-e, b.ends) in
        let k = stored_kept in
        let rest : h ≡ values_at w' end ((own - end) / 2) =
        b.rest ∙ sym (values_below w w' _ _ end y.2 k (omega (arith, o.next, o.above, b.ends, b.below))) ∙ ap (values_at w' end) (sym count_is) in
        record {
          same = g.same ∙ ap₂ (λ (i : ℕ) (l : List ℕ). resumed act f (and_then (walk_of act u i A l) (joined_values q (values_at w low given)))) y.5 rest;
          stands = y.6;
          ahead = ahead_kept w w' _ _ arity _ k (inl (omega (arith, m.limited, m.four))) g.ahead;
          room = omega (arith, g.room);
          below = omega (arith, count_is, b.ends, b.below);
          shown = (
            y.0,
            low,
            given,
            record {
              next = o.next;
              above = o.above;
              place_is = word_below w w' _ _ k y.0 (omega (arith, o.next)) ∙ o.place_is;
              inside = o.inside;
              tag_is = o.tag_is;
            },
            record {
              value_is = ap (λ (i : ℕ). word w' (i + 2)) at_here ∙ ap (λ (l : List ℕ). word l (frames - 4 + 2)) stored ∙ word_same w (frames - 4 + 2) (began + low) (omega (arith, m.four, m.limited));
              starts = refl;
              below = omega (arith, g.room, g.below);
              gave = sym (values_below w w' _ _ low given k (omega (arith, g.room, g.below, o.next, o.above)));
            },
            subst (λ (i : ℕ). Shown s w' y.0 (at + size u) low i f) (omega (arith, count_is, b.ends))
                (shown_kept s w w' _ _ k f y.0 (at + size u) low y.1 (inr (omega (arith, o.next))) y.7),
          );
          counted = omega (arith, g.counted);
          depth = omega (arith, g.depth);
        }

    tensor_turn : TopFrame s w frames → (f : List Waiting) → stack_end < frames → (get_or s (word w (frames - 4)) 0 ≡ 19 → ⊥) → own < began → G f → Turned act x A s w' at (Ok (U.Begin beside_of))
    unfolding Shown Turned
    tensor_turn m [] h t n g = nothing h g.shown.0
    tensor_turn m (sequence_left u r ∷ f) h t n g = absurd (t (tag_here g.shown.0 g.shown.1 19 g.shown.2))
    tensor_turn m (tensor_left q u r k ∷ f) h t n g = ((u, tensor_right q (values_at w low given) ∷ f, tensor_main m q u r k f g), omega arith)
    tensor_turn m (tensor_right q k ∷ f) h t n g = absurd (omega (arith, own_is, value_here g.shown.0 q 20 g.shown.3, g.shown.4.value_is, n))

    pub tensor_next_lem : Given → stack_end < frames → (get_or s (word w (frames - 4)) 0 ≡ 19 → ⊥) → own < began → Steps act x A s w w' at (Ok (U.Begin beside_of))
    tensor_next_lem g h t n =
        let m = top_of g h in
        record {
          turned = tensor_turn m g.0 h t n g.1;
          kept = kept_both w w' w' (frames - 4 + 2) (frames - 4 + 2 + 2) 0 frames_end 0 frames_end stored_kept (kept_same w' _ _) (omega arith) (omega arith) (omega (arith, m.four, m.limited)) (omega arith);
        }

  -- a tensor's right term ended: both lists joined
  module _ (first count : ℕ) (first_is : began + first ≡ word w (frames - 4 + 2)) (count_is : count ≡ (low + given * 2 - first) / 2) where
    module _ (q : ℕ) (h : List ℕ) (f : List Waiting) (g : G (tensor_right q h ∷ f)) (p l n : ℕ) (o : Framed s w frames p q 20) (j : Joins w p l n low h) (sh : Shown s w p at l end f) where
      start_is : first ≡ l
      start_is = omega (arith, first_is, value_here p q 20 o, j.value_is)

      number_is : count ≡ n + given
      number_is = omega (arith, count_is, start_is, j.starts)

      both : h ++ values_at w low given ≡ values_at w first count
      both =
          ap₂ (λ (a b : List ℕ). a ++ b) j.gave (ap (λ (i : ℕ). values_at w i given) (sym j.starts))
          ∙ sym (values_append n given w l)
          ∙ ap₂ (λ (i c : ℕ). values_at w i c) (sym start_is) (sym number_is)

      joining : x.result ≡ resumed act f (joined_values q h (out A (values_at w low given)))
      unfolding resumed and_then
      joining = g.same

      over : most_joined < count → Turned act x A s w at (refused_at JoinedTooLong (word w (frames - 4)))
      unfolding Turned joined_values
      over m =
          let e = place_here p q 20 o in (
            joining ∙ ap (resumed act f) (rw (both, length_values w first count, lt-ltb most_joined count m)) ∙ resumed_refused act f JoinedTooLong q ∙ ap (refused JoinedTooLong) e,
            omega (arith, e, o.inside),
          )

      within : count ≤ most_joined → GaveWith act x A s w at first count end (frames - 4) arity uses f
      unfolding joined_values pending later weight
      within m = record {
        same = joining ∙ ap (resumed act f) (rw (both, length_values w first count, le-ltb most_joined count m));
        ahead = g.ahead;
        room = omega (arith, g.room, start_is, number_is, j.starts);
        below = g.below;
        shown = subst (λ (i : ℕ). Shown s w i at first end f) (here p q 20 o) (subst (λ (i : ℕ). Shown s w p at i end f) (sym start_is) sh);
        counted = g.counted;
        depth = omega (arith, g.depth);
      }

    module _ (h : stack_end < frames) (t : get_or s (word w (frames - 4)) 0 ≡ 19 → ⊥) where
      left_value : {A : Type 0} (p q e : ℕ) → Framed s w frames p q 20 → word w (p + 2) ≡ e → e ≤ stack_end → A
      left_value p q e o v b = absurd (omega (arith, v, value_here p q 20 o, first_is))

      over_turn : (f : List Waiting) → most_joined < count → G f → Turned act x A s w at (refused_at JoinedTooLong (word w (frames - 4)))
      unfolding Shown
      over_turn [] l g = nothing h g.shown.0
      over_turn (sequence_left u r ∷ f) l g = absurd (t (tag_here g.shown.0 g.shown.1 19 g.shown.2))
      over_turn (tensor_left q u r k ∷ f) l g = left_value g.shown.0 q g.shown.1 g.shown.3 g.shown.4.value_is g.shown.4.below
      over_turn (tensor_right q k ∷ f) l g = let y = g.shown in over q k f g y.0 y.1 y.2 y.3 y.4 y.5 l

      within-turn : (f : List Waiting) → count ≤ most_joined → G f → Gave act x A s w at first count end (frames - 4) arity uses
      unfolding Shown
      within-turn [] l g = nothing h g.shown.0
      within-turn (sequence_left u r ∷ f) l g = absurd (t (tag_here g.shown.0 g.shown.1 19 g.shown.2))
      within-turn (tensor_left q u r k ∷ f) l g = left_value g.shown.0 q g.shown.1 g.shown.3 g.shown.4.value_is g.shown.4.below
      within-turn (tensor_right q k ∷ f) l g = let y = g.shown in (f, within q k f g y.0 y.1 y.2 y.3 y.4 y.5 l)

      pub joined_over : Given → most_joined < count → Steps act x A s w w at (refused_at JoinedTooLong (word w (frames - 4)))
      joined_over g l = record { turned = over_turn g.0 l g.1; kept = kept_same w _ _ }

      pub joined-within : Given → count ≤ most_joined → Gave act x A s w at first count end (frames - 4) arity uses
      joined-within g l = within-turn g.0 l g.1
