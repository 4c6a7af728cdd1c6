-- What the link is told by an output in bytes.
use Rattle.std.specs.Prelude.{ℕ, List, [], ◌∷◌, map, Option, Some, None, Vec}
use Rattle.std.specs.declared.alloc.Global.{Global}
use Rattle.session_reading.specs.session_law.declared.frame.Frame.{Frame}
use Rattle.session_reading.specs.session_law.declared.frame.Out.TheVariants.{Write}
use Rattle.session_reading.specs.session_law.Frames.{ToldLink, Bytes, Closed, told_of_out}
use Rattle.session_writing.specs.declared.output.SessionOut.{SessionOut}
use Rattle.session_writing.specs.declared.output.SessionOut.TheVariants as outs

abbrev pub told_bytes : SessionOut → ToldLink
told_bytes (outs.Frame bytes) = Bytes bytes.items
told_bytes outs.Close = Closed

-- and by the bytes of a frame, where there is one
abbrev pub told_frame : Option (Vec ℕ Global) → List ToldLink
told_frame None = []
told_frame (Some bytes) = Bytes bytes.items ∷ []

-- and by frames, between these two
abbrev pub told_frames : List ℕ → List ℕ → List Frame → List ToldLink
told_frames gate client frames = map (told_of_out gate client) (map Write frames)
