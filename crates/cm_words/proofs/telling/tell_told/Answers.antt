use Rattle.cm_text.proofs.Writes.{then_last}
use Rattle.cm_words.proofs.telling.tell_told.Goals as goal

pub returns : goal.returns
returns g c =
    then_last _ _ _ _ _ _ c.in_ok-say_too.ensures
    (then_last _ _ _ _ _ _ c.in_ok-say_if.ensures
    (then_last _ _ _ _ _ _ c.in_ok-say_if-2.ensures
    (then_last _ _ _ _ _ _ c.in_ok-say_if-3.ensures (then_last _ _ _ _ _ _ c.in_ok-say_back.ensures c.say_unwatched.ensures))))
