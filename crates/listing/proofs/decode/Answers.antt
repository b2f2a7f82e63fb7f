-- `listing::decode` meets its contract: the words that were read, or zeros. Assumes nothing.
use Rattle.std.proofs.Common.{rules, ◌≡◌, false}
use Rattle.std.specs.Prelude.{is_err}
use Rattle.listing.proofs.Indexed.{decoded_is}
use Rattle.listing.proofs.decode.Goals as goal

pub returns-else-is_err : goal.returns-else-is_err
returns-else-is_err c =
    let r = c.read_text-listing in
    let sound : is_err r.result ≡ false = search rules in
    decoded_is c.args.s.now r.ensures.words_after r.result r.ensures.value sound
