use Rattle.std.proofs.Common.{◌++◌, ◌∷◌, [], length-set, map, take, arith, ap, sym, ◌∙◌}
use Rattle.std.proofs.lemmas.List.{take_more_set, map_more}
use Rattle.c_api.specs.SurveysForC.{guess_number}
use Rattle.c_api.proofs.survey.nody_guesses.Goals as goal

pub loop-i-preserved : goal.loop-i-preserved
loop-i-preserved c =
    let i = c.loop-i.i in
    let room = c.loop-i.room in
    let found = c.as_slice-found.result.now in
    let (len, same) = c.loop-i.invariant in (
      length-set room i c.number_of_guess.result ∙ len,
      take_more_set room i c.number_of_guess.result (omega (arith, len)) ∙ ap (λ gs. gs ++ c.number_of_guess.result ∷ []) same
          ∙ ap (λ g. map guess_number (take i found) ++ g ∷ []) c.number_of_guess.ensures
          ∙ sym (map_more guess_number found i _ (omega arith)),
    )
