-- What is noted once a note is taken.
use Rattle.std.specs.Prelude.{List, [], ◌∷◌, ◌++◌}
use Rattle.std.specs.Arc.{arc_value}
use Rattle.answer_cache.specs.Seats.{Offer, offer_of}
use Rattle.answer_cache.specs.declared.notes.Note.{Note}
use Rattle.answer_cache.specs.declared.notes.Note.TheVariants.{Nothing, Offered}

abbrev pub noted_with : Note → List Offer
noted_with Nothing = []
noted_with (Offered before question answer moment) =
    before.value ++ offer_of question.value (arc_value answer.value) moment ∷ []
