pub mod ShownAgain
