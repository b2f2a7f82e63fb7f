-- The laws of the reader that crates above it use: each is stated in specs/, and proved where it belongs. Assumes nothing.
use Rattle.reader.specs.Addressed.{AllAddressed}
use Rattle.reader.specs.Enough.{Enough}
use Rattle.reader.specs.Most.{AllWithin, PagesFew}
use Rattle.reader.specs.Lines.{LinesAppend, LinesMore, LinesShort, RoomEnough}
use Rattle.reader.specs.Readable.{AllReadable, SoundBatches, SoundWords, SyncSame}
use Rattle.reader.proofs.AddressLaws as addresses
use Rattle.reader.proofs.AnswerLaws as answers
use Rattle.reader.proofs.Blocks as blocks
use Rattle.reader.proofs.PageLaws as pages
use Rattle.reader.proofs.RoomLaws as room
use Rattle.reader.proofs.SyncLaws as syncs

pub readable : AllReadable
readable = answers.readable

pub sound_batches : SoundBatches
sound_batches = answers.sound_batches

pub sound_words : SoundWords
sound_words = answers.sound_words

pub addressed : AllAddressed
addressed = addresses.addressed

pub sync_same : SyncSame
sync_same = syncs.sync_same

pub enough : Enough
enough = room.enough

pub all_within : AllWithin
all_within = room.all_within

pub pages_few : PagesFew
pages_few = room.pages_few

pub lines_append : LinesAppend
lines_append = blocks.lines_append

pub lines_more : LinesMore
lines_more = blocks.lines_more

pub lines_short : LinesShort
lines_short = pages.lines_short

pub room_enough : RoomEnough
room_enough = pages.room_enough
