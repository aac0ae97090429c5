-- The length that is answered counts bytes of the buffer.
use Rattle.std.proofs.Common.{ℕ, List, ltb}
use Rattle.model_base.proofs.Tests.{test}
use Rattle.support_buffer.proofs.Within.{Within, put-within, untouched-within}
use Rattle.model_little.specs.Little.{little_count, little_sheet}
use Rattle.model_little.specs.Putting.{no_ordinal, put_little}

pub little-within : (ordinal : ℕ) (buffer : List ℕ) → Within (put_little ordinal buffer)
unfolding put_little
little-within ordinal buffer =
    test (ltb ordinal little_count)
    (λ t. rw (t, put_little) (put-within (little_sheet ordinal) buffer))
    (λ t. rw (t, put_little) (untouched-within no_ordinal buffer))
