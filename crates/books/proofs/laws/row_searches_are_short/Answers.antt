use Rattle.books.proofs.Places.{place_turns}
use Rattle.books.proofs.laws.row_searches_are_short.Goals as goal

pub returns : goal.returns
returns g c = place_turns
