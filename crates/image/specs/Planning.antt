-- A plan as the image makes it, in the words of plans.
use Rattle.std.specs.Prelude.{List, map, Option, Some, None}
use Rattle.cal_base.specs.declared.identity.Ino.{Ino}
use Rattle.image.specs.declared.change_plan.ChangePlan.{ChangePlan}
use Rattle.token_kind.specs.Class.{class_number}
use Rattle.token_kind.specs.declared.«class».Class.{Class}
use Rattle.tree_law.specs.Needs.{Touch}
use Rattle.tree_law.specs.declared.reply.Reply.{Reply}
use Rattle.tree_law.specs.declared.reply.Reply.TheVariants.{Done, Refused}
use Rattle.tree_law.specs.declared.reply.Why.{Why}
use Rattle.volume_plan.specs.Plans.{Plan}

-- what is touched, with classes by their numbers
abbrev pub touch_numbers : List (Ino × Class) → List Touch
touch_numbers touched = map (λ (touch : Ino × Class). (touch.0, class_number touch.1)) touched

abbrev pub plan_of : ChangePlan → Plan
plan_of p = record { edit = p.edit; reply = p.reply; new_ino = p.new_ino; touches = touch_numbers p.touches; needed = p.needed }

-- the reply of a change: why it is refused, if it is
abbrev pub reply_for : Option Why → Reply
reply_for (Some why) = Refused why
reply_for None = Done
