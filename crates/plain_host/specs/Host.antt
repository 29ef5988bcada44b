-- What a host has, as a plain state.
use Rattle.std.specs.Prelude.{List}
use Rattle.plain.specs.Plain.{Plain, Served, plain_of}
use Rattle.plain.specs.declared.Extent.{Extent}
use Rattle.plain.specs.declared.Answer.{Answer}
use Rattle.plain_host.specs.declared.Host.{Host}
use Rattle.plain_host.specs.declared.Reply.{Reply}

abbrev pub shown : Host → Plain
shown h = plain_of h.kept h.runs

abbrev pub told : Reply → Served
told r = record { after = shown r.after; number = r.number; value = r.value }

-- the engine's answer, with the table that it left
abbrev pub reply_with : Answer → List Extent → Reply
reply_with a t = record { after = record { kept = a.after; runs = t }; number = a.number; value = a.value }
