use Rattle.surveys.proofs.windows.+are_shown.Given as goal

abbrev pub decreases-are_shown : goal.decreases-are_shown
decreases-are_shown l = l.count
