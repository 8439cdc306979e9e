-- Frames of 19 bytes in work space.
use Rattle.std.specs.Prelude.{ℕ, ◌+◌, List}
use Rattle.words.specs.Word.{word, put_word}
use Rattle.tactics.specs.Numbers.{triple, put_triple}
use Rattle.frames.specs.declared.Frame.{Frame}

-- the frame at a place
unfoldable pub frame_at : List ℕ → (at : ℕ) → Frame
frame_at w at = record {
  kind = word w at;
  file = word w (at + 2);
  at = word w (at + 4);
  count = word w (at + 6);
  start = triple w (at + 8);
  mark = triple w (at + 11);
  held = word w (at + 14);
  arena = triple w (at + 16);
}

unfoldable pub put_frame : List ℕ → (at : ℕ) → Frame → List ℕ
put_frame w at f =
    let term = put_word (put_word (put_word (put_word w at f.kind) (at + 2) f.file) (at + 4) f.at) (at + 6) f.count in
    put_triple (put_word (put_triple (put_triple term (at + 8) f.start) (at + 11) f.mark) (at + 14) f.held) (at + 16) f.arena
