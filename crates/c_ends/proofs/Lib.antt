mod Ended
mod Resumes
