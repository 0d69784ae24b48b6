-- `text::quick::quick_fields` reads the fields of a line. Assumes nothing.
use Rattle.std.proofs.Common.{◌∙◌, arith}
use Rattle.std.proofs.lemmas.Fn.{says_at}
use Rattle.text.proofs.QuickFields.{so_none, so_more, so_all}
use Rattle.text.proofs.quick.quick_fields.Goals as goal

pub loop-k-init : goal.loop-k-init
loop-k-init g c = λ value state role r. so_none _ _ _ _ _ c.requires.some

pub loop-k-preserved : goal.loop-k-preserved
loop-k-preserved g c =
    λ value state role r.
    so_more _ _ _ _ (c.loop-k.invariant value state role r) (omega arith) (r _ _ (says_at _ c.read.ensures c.in_ok-field.was)) _ _ (c.end_of.ensures ∙ rw c.loop-k.auto.values) c.in_ok-rest.ensures

pub returns : goal.returns
returns g c = λ value state role r. so_all _ _ _ _ (c.loop-k.invariant value state role r) (omega arith) (omega arith)
