pub mod Printed
pub mod Printing
pub mod Replies
pub mod Reports
pub mod RoleLines
pub mod ShownSteps
