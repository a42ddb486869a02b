-- Two post actions as one.
use Rattle.post_action.specs.declared.PostAction.{PostAction}
use Rattle.post_action.specs.declared.PostAction.TheVariants.{Continue, Reregister, Disable, Remove}

-- their common value, else Reregister
abbrev pub join_of : PostAction → PostAction → PostAction
join_of Continue Continue = Continue
join_of Disable Disable = Disable
join_of Remove Remove = Remove
join_of a b = Reregister
