-- The keys of a record's members.
use Rattle.std.specs.Prelude.{ℕ, List, codes}
use Rattle.cpe_records.specs.declared.member.Member.{Member}
use Rattle.cpe_records.specs.declared.member.Member.TheVariants as member

abbrev pub key_of : Member → List ℕ
key_of member.Do = codes "do"
key_of member.V = codes "v"
key_of member.Name = codes "name"
key_of member.Title = codes "title"
key_of member.Provenance = codes "provenance"
key_of member.Kind = codes "kind"
key_of member.Successors = codes "successors"
key_of member.Date = codes "date"
key_of member.Comment = codes "comment"
key_of member.Id = codes "id"
key_of member.Mode = codes "mode"
key_of member.Test = codes "test"
key_of member.System = codes "system"
key_of member.Href = codes "href"
key_of member.Result = codes "result"
key_of member.Active = codes "active"
