-- The proof file of a result: each copy and the header put a block behind what was written before, and the blocks are the encodings of what
-- stands in the job's file and in work space.
-- Assumes nothing.
use Prim.Native.Nat.{ℕ, suc, ◌+◌, ◌*◌, ◌/◌, ◌%◌, ◌≤◌}
use mathlib.Core.Path.{◌≡◌, refl, sym, ap, ap₂, subst, ◌∙◌}
use mathlib.Core.List.{List, [], ◌∷◌, ◌++◌, append_assoc}
use native.Mathlib.Omega.{arith}
use lib.ListN.{length, get_or, set, take, drop, length-append}
use lib.Seq.{paste, take_at, drop_at, drop-drop, drop-cons}
use Rattle.words.specs.Word.{put_word}
use Rattle.format.specs.declared.values.Goal.{Goal}
use Rattle.format.specs.Goals.{goals_at}
use Rattle.format.specs.Terms.{Term, size}
use Rattle.format.specs.Standing.{Stands}
use Rattle.format.specs.Encoding.{Bytes, word_bytes, term_bytes, goal_bytes, goal_list_bytes}
use Rattle.format.proofs.Encoded.{length-term_bytes, term_bytes_lem}
use Rattle.format.proofs.GoalBytes.{length-goal_bytes, goals_bytes}
use Rattle.format.proofs.GoalListBytes.{list_bytes}
use Rattle.format.proofs.GoalsLaws.{length-goals_at}
use Rattle.files.specs.Proofs.{proof_bytes}
use Rattle.files.specs.Jobs.{Job}
use Rattle.files.specs.Counts.{job_term_place}
use Rattle.files.specs.Standing.{JobStands}
use Rattle.tactics.specs.Numbers.{put_header}
use Rattle.tactics.specs.File.{file_size, FileGiven, FileWritten}

-- so much has been written at the beginning of a list
pub record Written (o x v : List ℕ) : Type 0 where
  pub all : v ≡ x ++ drop (length x) o
  pub room : length x ≤ length o

pub nothing_written : (o : List ℕ) → Written o [] o
nothing_written o = record { all = refl; room = omega arith }

-- a block copied behind it
pub block_written : (o x v s y : List ℕ) (at n : ℕ) → Written o x v → length x ≡ at → length y ≡ n → take n s ≡ y → at + n ≤ length o → Written o (x ++ y) (paste v at s n)
block_written o x v s y at n h lx ly e room =
    let t : take at v ≡ x = ap (take at) h.all ∙ take_at x (drop (length x) o) at lx in
    let d : drop at v ≡ drop (length x) o = ap (drop at) h.all ∙ drop_at x (drop (length x) o) at lx in
    let both : length (x ++ y) ≡ length x + length y = length-append x y in
    let sum : length x + n ≡ length (x ++ y) = omega (arith, both, ly) in
    let rest : drop (at + n) v ≡ drop (length (x ++ y)) o =
    sym (drop-drop n at v) ∙ ap (drop n) d ∙ drop-drop n (length x) o ∙ ap (λ (j : ℕ). drop j o) sum in
    record { all = ap₂ (λ (a b : List ℕ). a ++ b) (ap₂ (λ (a b : List ℕ). a ++ b) t e) rest; room = omega (arith, both, lx, ly, room) }

-- a header
three_set : (x r : List ℕ) (a b c tag high low : ℕ) → set (set (set (x ++ a ∷ b ∷ c ∷ r) (length x + 1) high) (length x + 1 + 1) low) (length x) tag ≡ (x ++ tag ∷ high ∷ low ∷ []) ++ r
three_set [] r a b c tag high low = refl
three_set (y ∷ x) r a b c tag high low =
    let e : suc (length x) + 1 ≡ suc (length x + 1) = omega arith in
    let f : suc (length x + 1) + 1 ≡ suc (length x + 1 + 1) = omega arith in
    ap (λ (j : ℕ). set (set (set (y ∷ x ++ a ∷ b ∷ c ∷ r) j high) (j + 1) low) (suc (length x)) tag) e
    ∙ ap (λ (j : ℕ). set (set (set (y ∷ x ++ a ∷ b ∷ c ∷ r) (suc (length x + 1)) high) j low) (suc (length x)) tag) f
    ∙ ap (λ (l : List ℕ). y ∷ l) (three_set x r a b c tag high low)

three_first : (o : List ℕ) (n : ℕ) → n + 3 ≤ length o → drop n o ≡ get_or o n 0 ∷ get_or o (suc n) 0 ∷ get_or o (suc (suc n)) 0 ∷ drop (n + 3) o
three_first o n h =
    let e : suc (suc (suc n)) ≡ n + 3 = omega arith in
    drop-cons o n 0 (omega arith)
    ∙ ap (λ (l : List ℕ). get_or o n 0 ∷ l) (drop-cons o (suc n) 0 (omega arith) ∙ ap (λ (l : List ℕ). get_or o (suc n) 0 ∷ l) (drop-cons o (suc (suc n)) 0 (omega arith) ∙ ap (λ (j : ℕ). get_or o (suc (suc n)) 0 ∷ drop j o) e))

pub header-written : (o x v : List ℕ) (at tag len : ℕ) → Written o x v → length x ≡ at → at + 3 ≤ length o → Written o (x ++ tag ∷ word_bytes len) (put_header v at tag len)
unfolding put_header put_word
header-written o x v at tag len h lx room =
    let both : length (x ++ tag ∷ word_bytes len) ≡ length x + 3 = length-append x (tag ∷ word_bytes len) in
    record {
      all = ap (λ (l : List ℕ). set (set (set l (at + 1) (len / 256)) (at + 1 + 1) (len % 256)) at tag) (h.all ∙ ap (λ (l : List ℕ). x ++ l) (three_first o (length x) (omega (arith, lx, room))))
          ∙ subst (λ (j : ℕ). set (set (set (x ++ get_or o (length x) 0 ∷ get_or o (suc (length x)) 0 ∷ get_or o (suc (suc (length x))) 0 ∷ drop (length x + 3) o) (j + 1) (len / 256)) (j + 1 + 1) (len % 256)) j tag
          ≡ (x ++ tag ∷ len / 256 ∷ len % 256 ∷ []) ++ drop (length x + 3) o) lx (three_set x (drop (length x + 3) o) _ _ _ tag (len / 256) (len % 256))
          ∙ ap (λ (j : ℕ). (x ++ tag ∷ word_bytes len) ++ drop j o) (sym both);
      room = omega (arith, both, lx, room);
    }

-- the blocks
list_block : (s : List ℕ) → Bytes s → (j : Job) → JobStands s j → take (job_term_place j) s ≡ goal_list_bytes j.goals
unfolding job_term_place
list_block s bytes j st =
    let e = (list_bytes s bytes 0 j.goals st.goals_stand.head st.goals_stand.goals_are).0 in
    let n : length (goal_list_bytes j.goals) ≡ 3 + length j.goals * 2 = omega (arith, length-goal_bytes j.goals) in
    ap (take (3 + length j.goals * 2)) e ∙ take_at (goal_list_bytes j.goals) _ (3 + length j.goals * 2) n

term_block : (w : List ℕ) → Bytes w → (p : Term) (at : ℕ) → Stands w at p → take (size p) (drop at w) ≡ term_bytes p
term_block w bytes p at st = ap (take (size p)) (term_bytes_lem w bytes p at st) ∙ take_at (term_bytes p) _ (size p) (length-term_bytes p)

goals_block : (w : List ℕ) → Bytes w → (n at : ℕ) → at + n * 2 ≤ length w → take (n * 2) (drop at w) ≡ goal_bytes (goals_at w at n)
goals_block w bytes n at h =
    let l : length (goal_bytes (goals_at w at n)) ≡ n * 2 = omega (arith, length-goal_bytes (goals_at w at n), length-goals_at n w at) in
    ap (take (n * 2)) (goals_bytes w bytes n at h) ∙ take_at (goal_bytes (goals_at w at n)) _ (n * 2) l

-- the whole file
module _ (w : List ℕ) (bytes start count : ℕ) (j : Job) (p : Term) (g : List Goal) (size_is : size p ≡ bytes) (goals_are : goals_at w start count ≡ g) where
  count_is : length g ≡ count
  count_is = sym (ap length goals_are) ∙ length-goals_at count w start

  list_length : length (goal_list_bytes j.goals) ≡ job_term_place j
  unfolding job_term_place
  list_length = omega (arith, length-goal_bytes j.goals)

  pub file_size_lem : length (proof_bytes (record { goals = j.goals; term = p; remaining = g })) ≡ file_size (job_term_place j) bytes count
  unfolding proof_bytes
  file_size_lem =
      length-append (goal_list_bytes j.goals ++ term_bytes p) (goal_list_bytes g)
      ∙ omega (arith, length-append (goal_list_bytes j.goals) (term_bytes p), list_length, length-term_bytes p, size_is, length-goal_bytes g, count_is)

  file_written : (job o : List ℕ) (from : ℕ) → Bytes job → Bytes w → JobStands job j → Stands w from p → start + count * 2 ≤ length w → file_size (job_term_place j) bytes count ≤ length o
      → (v₁ v₂ v₃ v : List ℕ) → v₁ ≡ paste o 0 (drop 0 job) (job_term_place j) → v₂ ≡ paste v₁ (job_term_place j) (drop from w) bytes → v₃ ≡ put_header v₂ (job_term_place j + bytes) 3 (count * 2)
      → v ≡ paste v₃ (job_term_place j + bytes + 3) (drop start w) (count * 2)
      → v ≡ proof_bytes (record { goals = j.goals; term = p; remaining = g }) ++ drop (file_size (job_term_place j) bytes count) o
  unfolding proof_bytes
  file_written job o from job-bytes work-bytes st stands inside fits v₁ v₂ v₃ v q₁ q₂ q₃ q₄ =
      let list = goal_list_bytes j.goals in
      let head : List ℕ = 3 ∷ word_bytes (count * 2) in
      let term_is : take bytes (drop from w) ≡ term_bytes p = ap (λ (i : ℕ). take i (drop from w)) (sym size_is) ∙ term_block w work-bytes p from stands in
      let term_size_lem : length (term_bytes p) ≡ bytes = length-term_bytes p ∙ size_is in
      let gave : take (count * 2) (drop start w) ≡ goal_bytes g = goals_block w work-bytes count start inside ∙ ap goal_bytes goals_are in
      let goals-size : length (goal_bytes g) ≡ count * 2 = omega (arith, length-goal_bytes g, count_is) in
      let w₁ : Written o list v₁ =
      subst (λ (x : List ℕ). Written o list x) (sym q₁) (block_written o [] o (drop 0 job) list 0 (job_term_place j) (nothing_written o) refl list_length (list_block job job-bytes j st) (omega (arith, fits))) in
      let w₂ : Written o (list ++ term_bytes p) v₂ =
      subst (λ (x : List ℕ). Written o (list ++ term_bytes p) x) (sym q₂) (block_written o list v₁ (drop from w) (term_bytes p) (job_term_place j) bytes w₁ list_length term_size_lem term_is (omega (arith, fits))) in
      let l₂ : length (list ++ term_bytes p) ≡ job_term_place j + bytes = length-append list (term_bytes p) ∙ ap₂ (λ (a b : ℕ). a + b) list_length term_size_lem in
      let w₃ : Written o (list ++ term_bytes p ++ head) v₃ =
      subst (λ (x : List ℕ). Written o (list ++ term_bytes p ++ head) x) (sym q₃) (header-written o (list ++ term_bytes p) v₂ (job_term_place j + bytes) 3 (count * 2) w₂ l₂ (omega (arith, fits))) in
      let l₃ : length (list ++ term_bytes p ++ head) ≡ job_term_place j + bytes + 3 = length-append (list ++ term_bytes p) head ∙ omega (arith, l₂) in
      let w₄ : Written o (list ++ term_bytes p ++ head ++ goal_bytes g) v =
      subst (λ (x : List ℕ). Written o (list ++ term_bytes p ++ head ++ goal_bytes g) x) (sym q₄)
      (block_written o (list ++ term_bytes p ++ head) v₃ (drop start w) (goal_bytes g) (job_term_place j + bytes + 3) (count * 2) w₃ l₃ goals-size gave (omega (arith, fits))) in
      let l₄ : length (list ++ term_bytes p ++ head ++ goal_bytes g) ≡ job_term_place j + bytes + 3 + count * 2 = length-append (list ++ term_bytes p ++ head) (goal_bytes g) ∙ omega (arith, l₃, goals-size) in
      let same : list ++ term_bytes p ++ head ++ goal_bytes g ≡ list ++ term_bytes p ++ goal_list_bytes g =
      append_assoc (list ++ term_bytes p) head (goal_bytes g) ∙ ap (λ (n : ℕ). list ++ term_bytes p ++ (3 ∷ word_bytes n ++ goal_bytes g)) (sym goals-size) in
      w₄.all ∙ ap₂ (λ (a : List ℕ) (n : ℕ). a ++ drop n o) same l₄

-- the file written by the code
pub write_end : (job : List ℕ) (term : ℕ) (w : List ℕ) (from bytes start count : ℕ) (o : List ℕ) → FileGiven job term w from bytes start count o → Bytes job → Bytes w → (v₁ v₂ v₃ v : List ℕ)
    → v₁ ≡ paste o 0 (drop 0 job) term → v₂ ≡ paste v₁ term (drop from w) bytes → v₃ ≡ put_header v₂ (term + bytes) 3 (count * 2)
    → v ≡ paste v₃ (term + bytes + 3) (drop start w) (count * 2) → FileWritten job term w from bytes start count o v
write_end job term w from bytes start count o q jb wb v₁ v₂ v₃ v e₁ e₂ e₃ e₄ j p g st place stands size_is goals_are =
    subst (λ (i : ℕ). file_size i bytes count ≤ length o → v₁ ≡ paste o 0 (drop 0 job) i → v₂ ≡ paste v₁ i (drop from w) bytes → v₃ ≡ put_header v₂ (i + bytes) 3 (count * 2)
    → v ≡ paste v₃ (i + bytes + 3) (drop start w) (count * 2) → v ≡ proof_bytes (record { goals = j.goals; term = p; remaining = g }) ++ drop (file_size i bytes count) o) place
    (λ f. file_written w bytes start count j p g size_is goals_are job o from jb wb st stands q.goals_inside f v₁ v₂ v₃ v) q.fits e₁ e₂ e₃ e₄
