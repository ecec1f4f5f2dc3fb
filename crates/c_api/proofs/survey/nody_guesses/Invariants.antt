use Rattle.std.proofs.Common.{◌≡◌, length, map, take}
use Rattle.c_api.specs.SurveysForC.{guess_number}
use Rattle.c_api.proofs.survey.nody_guesses.Given as goal

abbrev pub invariant-loop-i : goal.invariant-loop-i
invariant-loop-i l = (length l.room ≡ length l.fn.room) × (take l.i l.room ≡ map guess_number (take l.i l.found))
