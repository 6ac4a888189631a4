-- Each contract settles its call, but for those of what is read: it asks nothing, and two outcomes that it allows for
-- one input are the same.
use Rattle.words.specs.Contract.{Settles}
use Rattle.words.proofs.OneOutcome.{one-result}
use Rattle.replay.proofs.count.Counts.none as none
use Rattle.replay.proofs.count.Counts.agreed as agreed
use Rattle.replay.proofs.count.Counts.differed as differed
use Rattle.replay.proofs.count.Counts.unread as unread
use Rattle.replay.proofs.found.Found.nothing as nothing
use Rattle.replay.proofs.found.Found.compared as compared
use Rattle.replay.proofs.found.Found.double as double
use Rattle.replay.proofs.found.Found.truth as truth
use Rattle.replay.proofs.found.Found.held_against as held-against
use Rattle.replay.proofs.found.Found.of_texts as of-texts
use Rattle.replay.proofs.settings.word as word
use Rattle.replay.proofs.settings.choice as choice
use Rattle.replay.proofs.settings.number as number
use Rattle.replay.proofs.settings.whole as whole
use Rattle.replay.proofs.settings.tolerances_of as tolerances-of
use Rattle.replay.proofs.settings.settings_of as settings-of
use Rattle.replay.proofs.memory.Memory.lend as lend
use Rattle.replay.proofs.told.Teller.malformed as malformed
use Rattle.replay.proofs.told.Teller.counted as counted
use Rattle.replay.proofs.told.Teller.summary as summary
use Rattle.replay.proofs.word.spelled as spelled
use Rattle.replay.proofs.word.quarter as quarter
use Rattle.replay.proofs.out.Out.write as write
use Rattle.replay.proofs.out.Out.decimal as decimal
use Rattle.replay.proofs.out.Out.hex as hex

pub none-once : Settles none.Kinds.ps none.Kinds.r none.Reads.Asked none.Reads.Post
none-once κs a = (tt, λ o p. one-result o.1)

pub agreed-once : Settles agreed.Kinds.ps agreed.Kinds.r agreed.Reads.Asked agreed.Reads.Post
agreed-once κs a = (tt, λ o p. one-result o.1)

pub differed-once : Settles differed.Kinds.ps differed.Kinds.r differed.Reads.Asked differed.Reads.Post
differed-once κs a = (tt, λ o p. one-result o.1)

pub unread-once : Settles unread.Kinds.ps unread.Kinds.r unread.Reads.Asked unread.Reads.Post
unread-once κs a = (tt, λ o p. one-result o.1)

pub nothing-once : Settles nothing.Kinds.ps nothing.Kinds.r nothing.Reads.Asked nothing.Reads.Post
nothing-once κs a = (tt, λ o p. one-result o.1)

pub compared-once : Settles compared.Kinds.ps compared.Kinds.r compared.Reads.Asked compared.Reads.Post
compared-once κs a = (tt, λ o p. one-result o.1)

pub double-once : Settles double.Kinds.ps double.Kinds.r double.Reads.Asked double.Reads.Post
double-once κs a = (tt, λ o p. one-result o.1)

pub truth-once : Settles truth.Kinds.ps truth.Kinds.r truth.Reads.Asked truth.Reads.Post
truth-once κs a = (tt, λ o p. one-result o.1)

pub held-against-once
    : Settles held-against.Kinds.ps held-against.Kinds.r held-against.Reads.Asked held-against.Reads.Post
held-against-once κs a = (tt, λ o p. one-result o.1)

pub of-texts-once : Settles of-texts.Kinds.ps of-texts.Kinds.r of-texts.Reads.Asked of-texts.Reads.Post
of-texts-once κs a = (tt, λ o p. one-result o.1)

pub word-once : Settles word.Kinds.ps word.Kinds.r word.Reads.Asked word.Reads.Post
word-once κs a = (tt, λ o p. one-result o.1)

pub choice-once : Settles choice.Kinds.ps choice.Kinds.r choice.Reads.Asked choice.Reads.Post
choice-once κs a = (tt, λ o p. one-result o.1)

pub number-once : Settles number.Kinds.ps number.Kinds.r number.Reads.Asked number.Reads.Post
number-once κs a = (tt, λ o p. one-result o.1)

pub whole-once : Settles whole.Kinds.ps whole.Kinds.r whole.Reads.Asked whole.Reads.Post
whole-once κs a = (tt, λ o p. one-result o.1)

pub tolerances-of-once
    : Settles tolerances-of.Kinds.ps tolerances-of.Kinds.r tolerances-of.Reads.Asked tolerances-of.Reads.Post
tolerances-of-once κs a = (tt, λ o p. one-result o.1)

pub settings-of-once : Settles settings-of.Kinds.ps settings-of.Kinds.r settings-of.Reads.Asked settings-of.Reads.Post
settings-of-once κs a = (tt, λ o p. one-result o.1)

pub lend-once : Settles lend.Kinds.ps lend.Kinds.r lend.Reads.Asked lend.Reads.Post
lend-once κs a = (tt, λ o p. one-result o.1)

pub malformed-once : Settles malformed.Kinds.ps malformed.Kinds.r malformed.Reads.Asked malformed.Reads.Post
malformed-once κs a = (tt, λ o p. one-result o.1)

pub counted-once : Settles counted.Kinds.ps counted.Kinds.r counted.Reads.Asked counted.Reads.Post
counted-once κs a = (tt, λ o p. one-result o.1)

pub summary-once : Settles summary.Kinds.ps summary.Kinds.r summary.Reads.Asked summary.Reads.Post
summary-once κs a = (tt, λ o p. one-result o.1)

pub spelled-once : Settles spelled.Kinds.ps spelled.Kinds.r spelled.Reads.Asked spelled.Reads.Post
spelled-once κs a = (tt, λ o p. one-result o.1)

pub quarter-once : Settles quarter.Kinds.ps quarter.Kinds.r quarter.Reads.Asked quarter.Reads.Post
quarter-once κs a = (tt, λ o p. λ e f. one-result o.1 e.1 f.1)

pub write-once : Settles write.Kinds.ps write.Kinds.r write.Reads.Asked write.Reads.Post
write-once κs a = (tt, λ o p. one-result o.1)

pub decimal-once : Settles decimal.Kinds.ps decimal.Kinds.r decimal.Reads.Asked decimal.Reads.Post
decimal-once κs a = (tt, λ o p. one-result o.1)

pub hex-once : Settles hex.Kinds.ps hex.Kinds.r hex.Reads.Asked hex.Reads.Post
hex-once κs a = (tt, λ o p. one-result o.1)
