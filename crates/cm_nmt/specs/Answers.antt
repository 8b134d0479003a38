-- The record of a boot.
use Rattle.std.specs.Prelude.{ℕ, [], ◌∷◌, slice_index_or}
use Rattle.cm_nmt.specs.declared.answers.Answers.{Answers}
use Rattle.cm_nmt.specs.declared.got.Got.{Got}
use Rattle.cm_nmt.specs.declared.got.Got.TheVariants.{NotAsked}
use Rattle.cm_nmt.specs.declared.heard.Heard.TheVariants as heard

-- the answer to the identity question at this place: 0 to 3 for 1018h sub 1 to 4 (CiA 301, 1018h)
unfoldable pub id_of : Answers → ℕ → Got
id_of a k = slice_index_or a.ids k NotAsked

-- no question was asked
abbrev pub none : Answers
none = record {
  device = NotAsked;
  ids = NotAsked ∷ NotAsked ∷ NotAsked ∷ NotAsked ∷ [];
  date = NotAsked;
  time = NotAsked;
  refused = NotAsked;
  acked = 0;
  heard = heard.NotAsked;
  beat = heard.NotAsked;
}
