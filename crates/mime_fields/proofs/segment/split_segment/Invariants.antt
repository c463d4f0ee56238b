use Rattle.std.proofs.Common.{◌≡◌, take, drop}
use Rattle.mime_fields.specs.Segments.{segments, segments_from}
use Rattle.mime_fields.proofs.SegmentLemmas.{put_before}
use Rattle.mime_fields.proofs.segment.split_segment.Given as goal

abbrev pub invariant-loop-at : goal.invariant-loop-at
invariant-loop-at l = put_before (take l.at l.bytes) (segments_from l.quoted l.escaped (drop l.at l.bytes)) ≡ segments l.bytes
