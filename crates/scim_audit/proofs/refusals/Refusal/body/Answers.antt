use Rattle.std.proofs.Common.{refl}
use Rattle.scim_audit.proofs.refusals.Refusal.body.Goals as goal

pub returns-in-BadHead : goal.returns-in-BadHead
returns-in-BadHead c = rw c.in-BadHead.is refl

pub returns-in-TooLarge : goal.returns-in-TooLarge
returns-in-TooLarge c = rw c.in-TooLarge.is refl

pub returns-in-BadFraming : goal.returns-in-BadFraming
returns-in-BadFraming c = rw c.in-BadFraming.is refl

pub returns-in-UnknownCoding : goal.returns-in-UnknownCoding
returns-in-UnknownCoding c = rw c.in-UnknownCoding.is refl

pub returns-in-NoRoute : goal.returns-in-NoRoute
returns-in-NoRoute c = rw c.in-NoRoute.is refl

pub returns-in-NotSupported : goal.returns-in-NotSupported
returns-in-NotSupported c = rw c.in-NotSupported.is refl

pub returns-in-BadMethod : goal.returns-in-BadMethod
returns-in-BadMethod c = rw c.in-BadMethod.is refl

pub returns-in-NoToken : goal.returns-in-NoToken
returns-in-NoToken c = rw c.in-NoToken.is refl

pub returns-in-Syntax : goal.returns-in-Syntax
returns-in-Syntax c = rw c.in-Syntax.is refl

pub returns-in-Filter : goal.returns-in-Filter
returns-in-Filter c = rw c.in-Filter.is refl

pub returns-in-Path : goal.returns-in-Path
returns-in-Path c = rw c.in-Path.is refl

pub returns-in-MessageValue : goal.returns-in-MessageValue
returns-in-MessageValue c = rw c.in-MessageValue.is refl

pub returns-in-NotFound : goal.returns-in-NotFound
returns-in-NotFound c = rw c.in-NotFound.is refl

pub returns-in-Denied : goal.returns-in-Denied
returns-in-Denied c = rw c.in-Denied.is refl

pub returns-in-Mutability : goal.returns-in-Mutability
returns-in-Mutability c = rw c.in-Mutability.is refl

pub returns-in-NoTarget : goal.returns-in-NoTarget
returns-in-NoTarget c = rw c.in-NoTarget.is refl

pub returns-in-ResultValue : goal.returns-in-ResultValue
returns-in-ResultValue c = rw c.in-ResultValue.is refl

pub returns-in-Taken : goal.returns-in-Taken
returns-in-Taken c = rw c.in-Taken.is refl

pub returns-in-Widens : goal.returns-in-Widens
returns-in-Widens c = rw c.in-Widens.is refl

pub returns-in-IdInUse : goal.returns-in-IdInUse
returns-in-IdInUse c = rw c.in-IdInUse.is refl

pub returns-in-Store : goal.returns-in-Store
returns-in-Store c = rw c.in-Store.is refl
