-- Frames, one after the other: each an open gate, a count, a length and as many bytes.
use Rattle.std.specs.Prelude.{◌≡◌, ◌≤◌, ℕ, zero, suc, ◌+◌, Bool, true, ◌&&◌, List, [], ◌∷◌, length, take, drop, if◌then◌else◌, ◌==◌, nat_le}
use Rattle.std.specs.Int.{w32, w64, from_be_bytes}

-- a whole group with an open gate, unread: the count before it, and the bytes after its length
pub record Frame : Type 0 where
  pub base : ℕ
  pub body : List ℕ

-- a frame has 13 bytes before its body
abbrev pub frame_size : Frame → ℕ
frame_size frame = 13 + length frame.body

abbrev pub total_size : List Frame → ℕ
total_size [] = 0
total_size (frame ∷ more) = frame_size frame + total_size more

-- the length that is stated in what follows a gate
abbrev pub body_size : List ℕ → ℕ
body_size rest = from_be_bytes w32 (take 4 (drop 8 rest))

-- After a gate there are a base, a length and as many bytes.
abbrev pub is_whole : List ℕ → Bool
is_whole rest = nat_le 12 (length rest) && nat_le (body_size rest) (length (drop 12 rest))

abbrev pub frame_of : List ℕ → Frame
frame_of rest = record { base = from_be_bytes w64 (take 8 rest); body = take (body_size rest) (drop 12 rest) }

-- the frames after so many bytes, up to the first that is not open or not whole
unfoldable pub frames_after : ℕ → List ℕ → List Frame
frames_after n [] = []
frames_after (suc n) (byte ∷ bytes) = frames_after n bytes
frames_after zero (gate ∷ rest) = if (gate == 1) && is_whole rest then frame_of rest ∷ frames_after (12 + body_size rest) rest else []

abbrev pub frames : List ℕ → List Frame
frames bytes = frames_after 0 bytes

-- what follows a gate is whole, and is this frame
pub record IsWholeFrame (base : ℕ) (body rest : List ℕ) : Type 0 where
  pub whole : is_whole rest ≡ true
  pub is : frame_of rest ≡ record { base = base; body = body }

-- the frame at the front of bytes, and after it what follows
pub record IsFirst (base : ℕ) (body bytes : List ℕ) : Type 0 where
  pub is : frames bytes ≡ record { base = base; body = body } ∷ frames (drop (13 + length body) bytes)
  pub within : 13 + length body ≤ length bytes
