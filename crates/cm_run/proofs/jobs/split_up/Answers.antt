use Rattle.std.proofs.Common.{◌∙◌, map, ap, refl, sym}
use Rattle.std.proofs.lemmas.List.{nil_from_length}
use Rattle.cm_run.proofs.Handing.{fewer, none_left, one_back, one_taken, room_for_next}
use Rattle.cm_run.proofs.jobs.split_up.Goals as goal

pub loop-job-init : goal.loop-job-init
loop-job-init g c = record {
  can = tt;
  ends = tt;
  left = c.into_iter-job-iterator.ensures.into_iter_gives.0;
  seats = nil_from_length _ (sym c.args.seats.now.ok.0 ∙ c.requires.empty.0);
  buses = nil_from_length _ (sym c.args.buses.now.ok.0 ∙ c.requires.empty.1);
  room_seats = refl;
  room_buses = refl;
}

pub push_reserved-requires : goal.push_reserved-requires
push_reserved-requires g c =
    let was = c.loop-job.invariant in
    room_for_next (λ j. j.seat) _ _ _ _ _ _ was.seats c.loop-job.seats.ok.0 was.room_seats c.requires.room.0 c.args.jobs.ok.0 was.left c.in-Some.ensures.steps.0

pub push_reserved-requires-in-loop-job : goal.push_reserved-requires-in-loop-job
push_reserved-requires-in-loop-job g c =
    let was = c.loop-job.invariant in
    room_for_next (λ j. j.bus) _ _ _ _ _ _ was.buses c.loop-job.buses.ok.0 was.room_buses c.requires.room.1 c.args.jobs.ok.0 was.left c.in-Some.ensures.steps.0

pub loop-job-preserved : goal.loop-job-preserved
loop-job-preserved g c =
    let was = c.loop-job.invariant in
    record {
      can = tt;
      ends = tt;
      left = one_taken _ _ _ _ _ c.in-Some.ensures.steps.0 was.left;
      seats = one_back (λ j. j.seat) _ _ _ _ was.seats c.push_reserved.ensures.items;
      buses = one_back (λ j. j.bus) _ _ _ _ was.buses c.push_reserved-in-loop-job.ensures.items;
      room_seats = c.push_reserved.ensures.capacity ∙ was.room_seats;
      room_buses = c.push_reserved-in-loop-job.ensures.capacity ∙ was.room_buses;
    }

pub loop-job-smaller : goal.loop-job-smaller
loop-job-smaller g c = fewer c.in-Some.ensures.steps.1

pub returns-clause-seats : goal.returns-clause-seats
returns-clause-seats g c =
    c.loop-job.invariant.seats ∙ ap (map (λ j. j.seat)) (none_left _ _ _ c.loop-job.invariant.left (sym c.loop-job.job-iterator.rest.ok.0 ∙ c.in-None.ensures.steps.0))

pub returns-clause-buses : goal.returns-clause-buses
returns-clause-buses g c =
    c.loop-job.invariant.buses ∙ ap (map (λ j. j.bus)) (none_left _ _ _ c.loop-job.invariant.left (sym c.loop-job.job-iterator.rest.ok.0 ∙ c.in-None.ensures.steps.0))
