-- The action after an event, from what the source answered and what was asked for it meanwhile.
use Rattle.post_action.specs.declared.PostAction.{PostAction}
use Rattle.post_action.specs.declared.PostAction.TheVariants.{Continue}

-- the pending action replaces a Continue
abbrev pub decided : PostAction → PostAction → PostAction
decided Continue asked = asked
decided action asked = action
