-- What stands behind the first bytes of a listing's file doesn't change what is added. Assumes nothing.
use Rattle.listing.proofs.Front.{front_settles}
use Rattle.reader.specs.Answers.{judge_listing}
use Rattle.coverage.specs.Report.{coverage_of, added_to}
use Rattle.program.specs.ListingFront.{ListingFront}

pub listing_front : ListingFront
unfolding judge_listing coverage_of added_to
listing_front c s m h = let (listing, words) = front_settles s m h in rw (words, listing)
