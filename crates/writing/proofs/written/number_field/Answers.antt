-- `writing::written::number_field` puts a space and a number. Assumes nothing.
use Rattle.writing.proofs.PutLaws.{put_two}
use Rattle.writing.proofs.written.number_field.Goals as goal

pub returns : goal.returns
returns c = put_two c.push-spaced.ensures c.put_number.ensures
