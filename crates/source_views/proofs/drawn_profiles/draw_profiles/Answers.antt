use Rattle.source_views.proofs.drawn_profiles.draw_profiles.Goals as goal

pub returns-clause-before : goal.returns-clause-before
returns-clause-before c = c.in_ok-draw_profile.ensures

pub returns-clause-after : goal.returns-clause-after
returns-clause-after c = c.in_ok-draw_profile-2.ensures
