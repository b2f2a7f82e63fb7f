-- `reader::is_sync` meets its contract. Assumes nothing.
use Rattle.reader.proofs.SyncLaws.{sync_test}
use Rattle.reader.proofs.is_sync.Goals as goal

pub returns : goal.returns
returns c = search sync_test
