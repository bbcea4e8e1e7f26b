use Rattle.cv_asm.proofs.ListingLaw.{listing_read}
use Rattle.cv_asm.proofs.law.listings_are_read_back.Goals as goal

pub returns : goal.returns
returns c = listing_read c.words_of_instructions.ensures.only c.words_of_instructions.ensures.known
