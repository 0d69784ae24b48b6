-- `writing::written::put_digits` puts a number. Measure: the number. Assumes nothing.
use Rattle.writing.proofs.written.+put_digits.Given as goal

abbrev pub decreases-put_digits : goal.decreases-put_digits
decreases-put_digits l = l.k
