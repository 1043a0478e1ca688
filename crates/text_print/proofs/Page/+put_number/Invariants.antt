-- The measure is the number, whose tenth is smaller.
-- Assumes nothing.
use Rattle.text_print.proofs.Page.+put_number.Given as goal

abbrev pub decreases-put_number : goal.decreases-put_number
decreases-put_number l = l.n
