-- One turn within a term: a law for each return of `enter`, `leave` and `turn_within`.
-- Assumes nothing.
use mathlib.Core.Path.{◌≡◌, refl, sym, ap, subst, ◌∙◌}
use mathlib.Core.List.{List}
use mathlib.Core.Logic.{◌⊎◌, inl, inr}
use Prim.Native.Nat.{ℕ, zero, suc, ◌+◌, ◌*◌, ◌-◌, ◌≤◌, ◌<◌}
use native.Mathlib.Omega.{arith}
use lib.Dec.{leb}
use lib.ListN.{length}
use borrow.Author.Tests.{leb-false, eq-eqb, ne_eqb}
use Rattle.words.specs.Word.{word, put_word}
use Rattle.words.specs.Kept.{Kept}
use Rattle.words.proofs.WordLaws.{length-put_word, word_same, word_other}
use Rattle.words.proofs.KeptLaws.{kept_put, kept_both, kept_same}
use Rattle.format.specs.TermRead.{TermRead, Refused, Read}
use Rattle.format.specs.Limits.{most_term_fields}
use Rattle.format.specs.declared.refusals.Cause.{Cause}
use Rattle.format.specs.declared.refusals.Cause.TheVariants.{LengthWrong}
use Rattle.format.specs.Results.{gives, refused_at}
use Rattle.format.specs.Tags.{least_of, inner_of, hiproof_kind}
use Rattle.format.specs.Headers.{header, header_at}
use Rattle.format.specs.Shapes.{header_shape, ending}
use Rattle.format.proofs.HeaderLaws.{IsField, is_field}
use Rattle.format.proofs.Lengths.{short_field}
use Rattle.parts.specs.declared.state.Mode.{Mode}
use Rattle.parts.specs.declared.state.Mode.TheVariants as M
use Rattle.parts.specs.declared.state.State.{State}
use Rattle.parts.specs.States.{cause_of, by_mode, refusing, stepped, end_of}
use Rattle.parts.proofs.PartLaws.{else_refused}
use Rattle.reading.specs.Waiting.{reading_room, go_on, reads, closing, put_waiting, resumed, told, outcome, Waits, Going, weight, Held, Moved, Turned}
use Rattle.reading.proofs.ShapeLaws.{reads_refused, reads-leaf, reads_inner}
use Rattle.reading.proofs.WaitLaws.{resumed_refused, resumed_top, waits_top, waits_on, waits_lower, waits_inside, resumed_below, waits_below, waiting_kept, waiting-length, waiting_place, waiting_left}

-- the outcome by the mode
module _ (s w : List ℕ) (high base : ℕ) (x : State) where
  pub when_refused : x.mode ≡ M.Refused → outcome s w high base x ≡ Refused (cause_of x.why) x.place
  unfolding outcome
  when_refused e = rw e

  pub when_reads : x.mode ≡ M.Reads → outcome s w high base x ≡ resumed s w high base x.top x.depth (reads s high x.at x.end x.fields)
  unfolding outcome
  when_reads e = rw e

  pub when_gave : x.mode ≡ M.Gave → outcome s w high base x ≡ resumed s w high base x.top x.depth (Read x.at x.fields)
  unfolding outcome
  when_gave e = rw e

-- a state is in the file
pub inside : (s w : List ℕ) (base : ℕ) (x : State) → Going s w base x → (x.at ≤ x.end) × (x.end ≤ length s) × (x.top ≤ x.at)
inside s w base x g = (g.ordered, waits_inside s w base x.top x.end x.depth g.waits, g.behind)

-- two bytes tell how far a field stands behind the one around it
pub gap_fits : (s w : List ℕ) (base : ℕ) (x : State) → Going s w base x → x.mode ≡ M.Reads → x.at + 3 ≤ x.end → x.at - x.top ≤ 65535
gap_fits s w base x g m l = go (g.near m)
  where
    go : (x.at ≡ x.top) ⊎ (x.end ≤ x.top + 65538) → x.at - x.top ≤ 65535
    go (inl e) = omega arith
    go (inr e) = omega arith

-- a step to a refusal
refuses : (s w : List ℕ) (high base : ℕ) (x : State) (k : Cause) (p : ℕ) → Going s w base x → 1 ≤ by_mode x.mode 0 1 2 → outcome s w high base x ≡ Refused k p → Moved s w high base x w (refusing x k p)
unfolding weight
refuses s w high base x k p g m e = record {
  going = record { ordered = g.ordered; waits = g.waits; few = g.few; most = g.most; behind = g.behind; near = λ z. cc; room = g.room };
  same = when_refused s w high base (refusing x k p) refl ∙ sym e;
  kept = kept_same w base (base + reading_room);
  less = omega arith;
  held = record { part = refl; goals = refl; first = refl; second = refl; from = refl; field = refl };
  ahead = omega arith;
}

-- within a term nothing else changes
held-stepped : (x : State) (m : Mode) (at end n d top : ℕ) → Held x (stepped x m at end n d top)
held-stepped x m at end n d top = record { part = refl; goals = refl; first = refl; second = refl; from = refl; field = refl }

-- the returns of `enter`
module _ (s w : List ℕ) (high base : ℕ) (x : State) (g : Going s w base x) (m : x.mode ≡ M.Reads) where
  pub enter_refused : (k : Cause) (p : ℕ) → header_shape (header_at s x.at x.end hiproof_kind high (leb most_term_fields x.fields)) ≡ refused_at k p → Moved s w high base x w (refusing x k p)
  enter_refused k p e =
      refuses s w high base x k p g (rw m (omega arith))
      (when_reads s w high base x m ∙ ap (λ (r : TermRead). resumed s w high base x.top x.depth r) (reads_refused s high x.at x.end x.fields k p e) ∙ resumed_refused s w high base x.top x.depth k p)

  module _ (tag len close inner : ℕ) (e : header_at s x.at x.end hiproof_kind high (leb most_term_fields x.fields) ≡ gives (header tag len)) (c : close ≡ x.at + 3 + len) (i : inner ≡ inner_of tag) where
    abbrev F : IsField s x.at x.end hiproof_kind high (leb most_term_fields x.fields) tag len
    F = is_field s x.at x.end hiproof_kind high (leb most_term_fields x.fields) tag len e

    pub enter-leaf : inner ≡ 0 → Moved s w high base x w (stepped x M.Gave close close (x.fields + 1) x.depth x.top)
    unfolding weight
    enter-leaf z =
        let y = stepped x M.Gave close close (x.fields + 1) x.depth x.top in
        let f = F in
        let h = inside s w base x g in
        record {
          going = record {
            ordered = omega arith;
            waits = waits_lower s w base x.top x.end close x.depth (omega (arith, f)) g.waits;
            few = omega (arith, g.few);
            most = g.most;
            behind = omega (arith, h);
            near = λ q. cc;
            room = g.room;
          };
          same =
              when_gave s w high base y refl
              ∙ ap (λ (r : TermRead). resumed s w high base x.top x.depth r) (ap (λ (a : ℕ). Read a (x.fields + 1)) c ∙ sym (reads-leaf s high x.at x.end x.fields tag len e (sym i ∙ z)))
              ∙ sym (when_reads s w high base x m);
          kept = kept_same w base (base + reading_room);
          less = omega (arith, f, h);
          held = held-stepped x _ _ _ _ _ _;
          ahead = omega arith;
        }

    turned : (l : ℕ) → l ≡ least_of tag → end_of s x.at ≡ close → (k : ℕ) → inner_of tag ≡ suc k
        → closing (reads s high) x.at (end_of s x.at) k (reads s high (x.at + 3 + l) close (x.fields + 1)) ≡ reads s high x.at x.end x.fields
    turned l el ee k j =
        ap (λ (a : ℕ). closing (reads s high) x.at a k (reads s high (x.at + 3 + l) close (x.fields + 1))) ee
        ∙ ap (λ (a : ℕ). closing (reads s high) x.at close k (reads s high (x.at + 3 + a) close (x.fields + 1))) el
        ∙ ap (λ (a : ℕ). closing (reads s high) x.at a k (reads s high (x.at + 3 + least_of tag) a (x.fields + 1))) c
        ∙ sym (reads_inner s high x.at x.end x.fields tag len k e j (inside s w base x g).1)

    pub enter_inner : (l : ℕ) → l ≡ least_of tag → (inner ≡ 0 → ⊥) → (w' : List ℕ) → w' ≡ put_waiting w (base + x.depth * 4) (x.at - x.top) (inner - 1)
        → Moved s w high base x w' (stepped x x.mode (x.at + 3 + l) close (x.fields + 1) (x.depth + 1) x.at)
    unfolding weight end_of
    enter_inner l el nz w' ew =
        let y = stepped x x.mode (x.at + 3 + l) close (x.fields + 1) (x.depth + 1) x.at in
        let f = F in
        let h = inside s w base x g in
        let low = base + x.depth * 4 in
        let gap = x.at - x.top in
        let free : x.fields < 4096 = leb-false _ _ f.room in
        let fits : low + 3 < length w = omega (arith, g.few, g.room) in
        let j : inner_of tag ≡ suc (inner - 1) = omega arith in
        let kb : Kept w w' low (low + 4) = rw ew (waiting_kept w low gap (inner - 1) low (low + 4) (omega arith) (omega arith)) in
        let ka : Kept w w' base (base + reading_room) = rw ew (waiting_kept w low gap (inner - 1) base (base + reading_room) (omega arith) (omega (arith, g.few))) in
        let p : word w' low ≡ gap = rw ew (waiting_place w low gap (inner - 1) fits) in
        let q : word w' (low + 2) ≡ inner - 1 = rw ew (waiting_left w low gap (inner - 1) fits) in
        let n : length w' ≡ length w = rw ew (waiting-length w low gap (inner - 1)) in
        let ee : end_of s x.at ≡ close = omega (arith, f.the_length) in
        let sh : end_of s x.at ≤ x.at + 65538 = omega (arith, ee, f.most, short_field tag) in
        let back : x.top ≡ x.at - gap = omega (arith, h) in
        record {
          going = record {
            ordered = omega (arith, f);
            waits =
                waits_on s w' base x.at close x.depth gap p (omega (arith, ee)) sh (omega arith)
                (subst (λ (k : ℕ). Waits s w' base k (end_of s x.at) x.depth) back
                (waits_below s w w' base low (low + 4) kb x.top (end_of s x.at) x.depth (omega arith) (waits_lower s w base x.top x.end (end_of s x.at) x.depth (omega (arith, ee, f)) g.waits)));
            few = omega (arith, g.few);
            most = omega (arith, g.few);
            behind = omega arith;
            near = λ z. inr (omega (arith, ee, sh));
            room = omega (arith, n, g.room);
          };
          same =
              when_reads s w' high base y m
              ∙ resumed_top s w' high base x.at x.depth gap (inner - 1) _ p q
              ∙ ap (λ (k : ℕ). resumed s w' high base k x.depth (closing (reads s high) x.at (end_of s x.at) (inner - 1) (reads s high (x.at + 3 + l) close (x.fields + 1)))) (sym back)
              ∙ resumed_below s w w' base low (low + 4) kb high x.top x.depth _ (omega arith)
              ∙ ap (λ (r : TermRead). resumed s w high base x.top x.depth r) (turned l el ee (inner - 1) j)
              ∙ sym (when_reads s w high base x m);
          kept = ka;
          less = omega (arith, f, h);
          held = held-stepped x _ _ _ _ _ _;
          ahead = omega arith;
        }

-- the field on top of those that wait lies in the file, and stands behind the one around it
pub top_inside : (s w : List ℕ) (base : ℕ) (x : State) → Going s w base x → (d gap : ℕ) → x.depth ≡ d + 1 → gap ≡ word w (base + d * 4) → (end_of s x.top ≤ length s) × (gap ≤ x.top)
top_inside s w base x g d gap dd p =
    let h = waits_top s w base x.top x.end d gap (sym p) (subst (λ (k : ℕ). Waits s w base x.top x.end k) dd g.waits) in
    (waits_inside s w base (x.top - gap) (end_of s x.top) d h.3, h.2)

-- its end, from the length that was loaded
pub ends_at : (s : List ℕ) (place len : ℕ) → len ≡ word s (place + 1) → place + 3 + len ≡ end_of s place
unfolding end_of
ends_at s place len e = rw e

-- the returns of `leave`: d is the number of fields below, gap and left what stands on top
module _ (s w : List ℕ) (high base : ℕ) (x : State) (g : Going s w base x) (m : x.mode ≡ M.Gave) (d gap left end : ℕ) (dd : x.depth ≡ d + 1)
    (p : gap ≡ word w (base + d * 4)) (q : left ≡ word w (base + d * 4 + 2)) (ee : end ≡ end_of s x.top) where
  top_waits : (x.end ≤ end_of s x.top) × (end_of s x.top ≤ x.top + 65538) × (gap ≤ x.top) × Waits s w base (x.top - gap) (end_of s x.top) d
  top_waits = waits_top s w base x.top x.end d gap (sym p) (subst (λ (k : ℕ). Waits s w base x.top x.end k) dd g.waits)

  before : outcome s w high base x ≡ resumed s w high base (x.top - gap) d (closing (reads s high) x.top end left (Read x.at x.fields))
  before =
      when_gave s w high base x m
      ∙ ap (λ (k : ℕ). resumed s w high base x.top k (Read x.at x.fields)) dd
      ∙ resumed_top s w high base x.top d gap left _ (sym p) (sym q)
      ∙ ap (λ (a : ℕ). resumed s w high base (x.top - gap) d (closing (reads s high) x.top a left (Read x.at x.fields))) (sym ee)

  ended : (l : ℕ) → l ≡ 0 → closing (reads s high) x.top end l (Read x.at x.fields) ≡ ending x.top end x.at x.fields
  unfolding closing go_on
  ended l z = rw z

  pub leave_ends : left ≡ 0 → x.at ≡ end → Moved s w high base x w (stepped x x.mode x.at end x.fields d (x.top - gap))
  unfolding weight ending
  leave_ends z t =
      let y = stepped x x.mode x.at end x.fields d (x.top - gap) in
      let tw = top_waits in
      record {
        going = record {
          ordered = omega arith;
          waits = rw ee tw.3;
          few = omega (arith, g.few);
          most = omega (arith, g.most);
          behind = omega (arith, g.behind);
          near = λ v. cc;
          room = g.room;
        };
        same =
            when_gave s w high base y m
            ∙ ap (λ (r : TermRead). resumed s w high base (x.top - gap) d r) (sym (ended left z ∙ rw (eq-eqb x.at end t)))
            ∙ sym before;
        kept = kept_same w base (base + reading_room);
        less = omega arith;
        held = held-stepped x _ _ _ _ _ _;
        ahead = omega arith;
      }

  pub leave_refused : left ≡ 0 → (x.at ≡ end → ⊥) → Moved s w high base x w (refusing x LengthWrong x.top)
  unfolding ending
  leave_refused z t =
      refuses s w high base x LengthWrong x.top g (rw m (omega arith))
      (before ∙ ap (λ (r : TermRead). resumed s w high base (x.top - gap) d r) (ended left z ∙ rw (ne_eqb x.at end t)) ∙ resumed_refused s w high base (x.top - gap) d LengthWrong x.top)

  more : (l : ℕ) → (l ≡ 0 → ⊥) → closing (reads s high) x.top end l (Read x.at x.fields) ≡ closing (reads s high) x.top end 0 (reads s high x.at end x.fields)
  unfolding closing go_on
  more zero nz = absurd (nz refl)
  more (suc l) nz = refl

  pub leave_more : (left ≡ 0 → ⊥) → (w' : List ℕ) → w' ≡ put_word w (base + d * 4 + 2) 0 → Moved s w high base x w' (stepped x M.Reads x.at end x.fields x.depth x.top)
  unfolding weight
  leave_more nz w' ew =
      let y = stepped x M.Reads x.at end x.fields x.depth x.top in
      let tw = top_waits in
      let low = base + d * 4 in
      let fits : low + 3 < length w = omega (arith, g.most, g.room) in
      let kb : Kept w w' (low + 2) (low + 4) = rw ew (kept_put w (low + 2) 0 (low + 2) (low + 4) (omega arith) (omega arith)) in
      let ka : Kept w w' base (base + reading_room) = rw ew (kept_put w (low + 2) 0 base (base + reading_room) (omega arith) (omega (arith, g.most))) in
      let p' : word w' low ≡ gap = rw ew (word_other w (low + 2) 0 low (inl (omega arith)) ∙ sym p) in
      let q' : word w' (low + 2) ≡ 0 = rw ew (word_same w (low + 2) 0 (omega arith)) in
      let n : length w' ≡ length w = rw ew (length-put_word w (low + 2) 0) in
      record {
        going = record {
          ordered = omega (arith, tw.0, ee, g.ordered);
          waits =
              subst (λ (k : ℕ). Waits s w' base x.top end k) (sym dd)
              (waits_on s w' base x.top end d gap p' (omega (arith, ee)) tw.1 tw.2 (waits_below s w w' base (low + 2) (low + 4) kb (x.top - gap) (end_of s x.top) d (omega arith) tw.3));
          few = g.few;
          most = g.most;
          behind = g.behind;
          near = λ v. inr (omega (arith, ee, tw.1));
          room = omega (arith, n, g.room);
        };
        same =
            when_reads s w' high base y refl
            ∙ ap (λ (k : ℕ). resumed s w' high base x.top k (reads s high x.at end x.fields)) dd
            ∙ resumed_top s w' high base x.top d gap 0 _ p' q'
            ∙ resumed_below s w w' base (low + 2) (low + 4) kb high (x.top - gap) d _ (omega arith)
            ∙ ap (λ (a : ℕ). resumed s w high base (x.top - gap) d (closing (reads s high) x.top a 0 (reads s high x.at end x.fields))) (sym ee)
            ∙ ap (λ (r : TermRead). resumed s w high base (x.top - gap) d r) (sym (more left nz))
            ∙ sym before;
        kept = ka;
        less = rw m (omega arith);
        held = held-stepped x _ _ _ _ _ _;
        ahead = omega arith;
      }

held_both : (x y z : State) → Held x y → Held y z → Held x z
held_both x y z a b = record {
  part = b.part ∙ a.part;
  goals = b.goals ∙ a.goals;
  first = b.first ∙ a.first;
  second = b.second ∙ a.second;
  from = b.from ∙ a.from;
  field = b.field ∙ a.field;
}

-- two steps
pub moved_both : (s w : List ℕ) (high base : ℕ) (x : State) (w' : List ℕ) (y : State) (w'' : List ℕ) (z : State) → Moved s w high base x w' y → Moved s w' high base y w'' z → Moved s w high base x w'' z
moved_both s w high base x w' y w'' z a b = record {
  going = b.going;
  same = b.same ∙ a.same;
  kept = kept_both w w' w'' base (base + reading_room) base (base + reading_room) base (base + reading_room) a.kept b.kept (omega arith) (omega arith) (omega arith) (omega arith);
  less = omega (arith, a.less, b.less);
  held = held_both x y z a.held b.held;
  ahead = omega (arith, a.ahead, b.ahead);
}

-- the returns of `turn_within`: what was read is a term that no field encloses, or nothing was read
module _ (s w : List ℕ) (high base : ℕ) (x : State) (w' : List ℕ) (r : State) (v : Moved s w high base x w' r) where
  pub turned_whole : r.mode ≡ M.Gave → r.depth ≡ 0 → Turned s w high base x w' r
  unfolding resumed told
  turned_whole m z = record {
    moved = v;
    over = λ n. when_gave s w' high base r m ∙ ap (λ (k : ℕ). resumed s w' high base r.top k (Read r.at r.fields)) z ∙ rw m;
    bare = λ n. z;
  }

  pub turned_on : (r.mode ≡ M.Gave → ⊥) → Turned s w high base x w' r
  unfolding told
  turned_on m = record {
    moved = v;
    over = λ n. let e = else_refused r.mode n m in when_refused s w' high base r e ∙ rw e;
    bare = λ n. absurd (m n);
  }
