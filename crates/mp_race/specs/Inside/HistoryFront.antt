-- The beginning of an entry's line, as the code reads it.
use Rattle.mp_text.specs.Words.{words_of}
use Rattle.mp_race.specs.declared.reading.Front.{Front}
use Rattle.mp_race.specs.Inside.HistoryWords as told

abbrev pub front_of : Front → told.Front
front_of f = record {
  place = f.place;
  worker = f.worker;
  task = f.task;
  kind = f.kind.now;
  words = words_of f.rest.now;
}
