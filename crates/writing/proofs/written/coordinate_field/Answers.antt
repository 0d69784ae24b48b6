-- `writing::written::coordinate_field` puts a space and a coordinate. Assumes nothing.
use mir.Facts.{to_z-of_z}
use Rattle.writing.proofs.PutLaws.{put_two}
use Rattle.writing.proofs.written.coordinate_field.Goals as goal

pub returns : goal.returns
returns c = put_two c.push-spaced.ensures (rw (to_z-of_z c.ranges.z) at c.put_coordinate.ensures)
