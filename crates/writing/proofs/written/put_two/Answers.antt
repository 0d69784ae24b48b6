-- `writing::written::put_two` puts two bytes. Assumes nothing.
use Rattle.writing.proofs.PutLaws.{put_two}
use Rattle.writing.proofs.written.put_two.Goals as goal

pub returns : goal.returns
returns c = put_two c.push-next.ensures c.push.ensures
